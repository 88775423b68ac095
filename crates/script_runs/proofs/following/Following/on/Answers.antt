use Rattle.script_runs.proofs.PlanLemmas.{goes_on_none}
use Rattle.script_runs.proofs.following.Following.on.Goals as goal

pub invariant_of-result-clause-goes_on : goal.invariant_of-result-clause-goes_on
invariant_of-result-clause-goes_on g c =
    goes_on_none g.S.Start.device (g.F.Flash.device c.args.flash.now) g.S.Start.plan (g.F.Planned.schedule c.args.flash.now) c.requires.plan c.requires.device
