use Rattle.std.proofs.Common.{◌≤◌, length, arith}
use Rattle.host_interface.specs.Sources.{source_found}
use Rattle.put_jobs.proofs.PutLemmas.{among, others_next, others_all}
use Rattle.put_jobs.proofs.put.check_places.Goals as goal

pub loop-source-preserved : goal.loop-source-preserved
loop-source-preserved g c =
    others_next c.args.image.now c.args.sources.now c.loop-source.source-index c.source-item.result c.loop-source-test.true c.source-item.is c.loop-source.invariant c.in-Ok.ensures.ok

pub returns-in-Err-clause-err : goal.returns-in-Err-clause-err
returns-in-Err-clause-err g c =
    (source_found c.source-item.result, among c.args.sources.now c.loop-source.source-index c.source-item.result c.loop-source-test.true c.source-item.is, c.in-Err.ensures.err)

pub returns-clause-others : goal.returns-clause-others
returns-clause-others g c =
    let over : length c.args.sources.now ≤ c.loop-source.source-index = omega arith in
    others_all c.args.image.now c.args.sources.now c.loop-source.source-index over c.loop-source.invariant
