use Rattle.std.proofs.Common.{sym, arith}
use Rattle.std.proofs.lemmas.List.{take_all, length-take-le}
use Rattle.updates.proofs.pieces.first_piece.Goals as goal

pub returns-else-bytes-gt-MOST_BYTES : goal.returns-else-bytes-gt-MOST_BYTES
returns-else-bytes-gt-MOST_BYTES c = sym (take_all 30000 c.args.bytes.now c.if-bytes-gt-MOST_BYTES.false)

pub slice_bounds-result-end : goal.slice_bounds-result-end
slice_bounds-result-end c = let long = c.if-bytes-gt-MOST_BYTES.true in sym (length-take-le 30000 c.args.bytes.now (omega (arith, long)))
