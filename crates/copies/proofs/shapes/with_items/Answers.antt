use Rattle.std.proofs.Common.{◌∙◌, ap, arith}
use Rattle.std.proofs.lemmas.List.{take_all}
use Rattle.std.specs.Prelude.{fold}
use Rattle.copies.specs.Shapes.{with_item}
use Rattle.copies.proofs.shapes.with_items.Goals as goal

pub returns : goal.returns
returns c = c.loop-item.invariant ∙ ap (fold (with_item c.args.above) c.args.shape) (take_all c.loop-item.item-index c.args.items.now (omega arith))
