use Rattle.std.proofs.lemmas.Result.{IfErr-weaker}
use Rattle.reclaim.proofs.NodeCalls.{refused_why}
use Rattle.system.proofs.Costing.{asks_few, asks_rest}
use Rattle.system.proofs.Passing.{reads_on, store_cause}
use Rattle.system.proofs.passes.step_in.Goals as goal

pub returns-clause-asks : goal.returns-clause-asks
returns-clause-asks g c = (
  asks_few g.F.Flash.device c.args.store.now c.step.new.nodes c.step.ensures.calls.looks.came c.step.ensures.calls.looks.same_writes c.args.budget c.step.ensures.calls.reads,
  λ pass. asks_rest g.F.Flash.device c.args.store.now c.step.new.nodes c.step.ensures.calls.looks.came c.step.ensures.calls.looks.same_writes c.args.pass.now (c.step.ensures.reached pass).seen,
)

pub returns-clause-reads_on : goal.returns-clause-reads_on
returns-clause-reads_on g c = reads_on c.args.budget c.args.pass.now c.step.result c.step.new.self c.step.ensures.ends.more c.step.ensures.ends.done c.step.ensures.ends.all

pub returns-clause-why : goal.returns-clause-why
returns-clause-why g c = IfErr-weaker c.step.result _ _
    (λ fault refused. store_cause g.F.Flash.device c.args.store.now c.step.new.nodes fault refused.0 refused.1) (refused_why c.step.ensures.calls)
