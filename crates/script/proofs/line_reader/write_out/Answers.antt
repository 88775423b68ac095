use Rattle.script.proofs.StreamLemmas.{written_more}
use Rattle.script.proofs.line_reader.write_out.Goals as goal

pub loop-written-preserved : goal.loop-written-preserved
loop-written-preserved g c =
    written_more _ _ _ c.args.bytes.now c.loop-written.written c.in_ok-count.count c.loop-written.invariant.0 c.in_ok-count.ensures.bound c.loop-written.invariant.1 c.in_ok-count.ensures.ok
