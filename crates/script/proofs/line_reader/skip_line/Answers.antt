use Rattle.script.proofs.StreamLemmas.{part_more}
use Rattle.script.proofs.line_reader.skip_line.Goals as goal

pub loop-preserved : goal.loop-preserved
loop-preserved g c = part_more _ _ _ c.in-Some.byte c.loop.invariant (rw c.in-Some.is at c.in_ok-byte.ensures.taken) c.if-byte-eq10.false
