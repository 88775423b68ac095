use Rattle.std.proofs.Common.{◌≡◌, take}
use Rattle.std.specs.Prelude.{fold}
use Rattle.copies.specs.Shapes.{with_item}
use Rattle.copies.proofs.shapes.with_items.Given as goal

abbrev pub invariant-loop-item : goal.invariant-loop-item
invariant-loop-item l = l.shape ≡ fold (with_item l.above) l.fn.shape (take l.item-index l.items)
