use Rattle.std.proofs.Common.{ap, rules}
use Rattle.system.proofs.Passing.{asked_alike}
use Rattle.system.proofs.passes.step_on.Goals as goal

pub returns-clause-pass : goal.returns-clause-pass
returns-clause-pass g c = rw c.new-store.ensures.flash at c.step_in.ensures.pass

pub returns-clause-damaged : goal.returns-clause-damaged
returns-clause-damaged g c = rw c.new-store.ensures.flash at c.step_in.ensures.damaged

pub returns-clause-asks : goal.returns-clause-asks
returns-clause-asks g c = asked_alike _ _ _ _ c.args.pass.now c.args.budget (ap (λ b. g.F.Flash.device b.now) c.new-store.ensures.flash) (search rules) c.step_in.ensures.asks
