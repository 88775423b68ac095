use Rattle.std.proofs.Common.{◌∙◌, ap, arith}
use Rattle.std.proofs.lemmas.List.{take_all}
use Rattle.std.specs.Prelude.{fold}
use Rattle.copies.specs.Shapes.{with_name}
use Rattle.copies.proofs.shapes.with_names.Goals as goal

pub returns : goal.returns
returns c = c.loop-name.invariant ∙ ap (fold with_name c.args.shape) (take_all c.loop-name.name-index c.args.names.now (omega arith))
