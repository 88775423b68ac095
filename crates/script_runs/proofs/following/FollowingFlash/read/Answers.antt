use Rattle.std.proofs.Common.{arith}
use Rattle.flash_model.specs.declared.fault_kind.Operation.{Operation}
use Rattle.script_runs.proofs.PlanLemmas.{goes_on_more}
use Rattle.script_runs.proofs.following.FollowingFlash.read.Goals as goal

pub invariant_of-self-clause-goes_on : goal.invariant_of-self-clause-goes_on
invariant_of-self-clause-goes_on g c =
    let was = c.args.self.now.flash.now in
    let now = c.read_as_planned.new.self in
    goes_on_more g.S.Start.device (g.F.Flash.device was) (g.F.Flash.device now) g.S.Start.plan (g.F.Planned.schedule was) (g.F.Planned.schedule now) Operation.Read c.read_as_planned.result
    c.args.self.now.goes_on c.read_as_planned.ensures.reads.operates (omega arith) c.read_as_planned.ensures.answer c.read_as_planned.ensures.plan
