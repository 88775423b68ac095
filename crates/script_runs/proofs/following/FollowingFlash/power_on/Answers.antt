use Rattle.script_runs.proofs.PlanLemmas.{goes_on_powered}
use Rattle.script_runs.proofs.following.FollowingFlash.power_on.Goals as goal

pub invariant_of-self-clause-goes_on : goal.invariant_of-self-clause-goes_on
invariant_of-self-clause-goes_on g c =
    let was = c.args.self.now.flash.now in
    let now = c.power_on_as_planned.new.self in
    goes_on_powered g.S.Start.device (g.F.Flash.device was) (g.F.Flash.device now) g.S.Start.plan (g.F.Planned.schedule was) (g.F.Planned.schedule now)
    c.args.self.now.goes_on c.power_on_as_planned.ensures.plan c.power_on_as_planned.ensures.power
