use Rattle.std.proofs.Common.{◌-◌, length, vec_capacity}
use Rattle.script.proofs.StreamLemmas.{IsFilling}
use Rattle.script.proofs.line_reader.fill_line.Given as goal

abbrev pub invariant-loop-byte : goal.invariant-loop-byte
invariant-loop-byte g l = IsFilling (g.R.Read.remaining l.fn.reader) (g.R.Read.remaining l.reader) l.buffer.items (vec_capacity l.buffer)

abbrev pub decreases-loop-byte : goal.decreases-loop-byte
decreases-loop-byte g l = 65537 - length l.buffer.items
