use Rattle.std.proofs.Common.{◌≡◌, take}
use Rattle.std.specs.Prelude.{fold}
use Rattle.copies.specs.Shapes.{with_name}
use Rattle.copies.proofs.shapes.with_names.Given as goal

abbrev pub invariant-loop-name : goal.invariant-loop-name
invariant-loop-name l = l.shape ≡ fold with_name l.fn.shape (take l.name-index l.names)
