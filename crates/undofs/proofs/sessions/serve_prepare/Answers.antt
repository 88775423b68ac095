use Rattle.std.proofs.Common.{Ok, Err}
use Rattle.undofs.proofs.SessionSteps.{prepare_serves}
use Rattle.undofs.proofs.sessions.serve_prepare.Goals as goal

pub returns-in-Ok-clause-serves : goal.returns-in-Ok-clause-serves
returns-in-Ok-clause-serves g c = rw c.in-Some.is (prepare_serves _ _ _ (Ok _) _ _ c.in-Ok.ensures.step c.in-Ok.ensures.system)

pub returns-in-Err-clause-serves : goal.returns-in-Err-clause-serves
returns-in-Err-clause-serves g c = rw c.in-Some.is (prepare_serves _ _ _ (Err _) _ _ c.in-Err.ensures.step c.in-Err.ensures.system)
