use Rattle.std.proofs.Common.{◌∙◌, ap, arith}
use Rattle.std.proofs.lemmas.List.{take_all}
use Rattle.std.specs.Prelude.{fold}
use Rattle.copies.specs.Shapes.{with_byte, with_bytes}
use Rattle.copies.proofs.shapes.with_bytes.Goals as goal

pub returns : goal.returns
unfolding with_bytes
returns c = c.loop-byte.invariant ∙ ap (fold with_byte c.args.shape) (take_all c.loop-byte.byte-index c.args.bytes.now (omega arith))
