use Rattle.std.proofs.Common.{Ok, Err}
use Rattle.undofs.proofs.AskedRuns.{space_serves}
use Rattle.undofs.proofs.asks.serve_space.Goals as goal

pub returns-in-Ok-clause-serves : goal.returns-in-Ok-clause-serves
returns-in-Ok-clause-serves g c = rw c.in-Some.is (space_serves _ _ (Ok _) _ _ c.in-Ok.ensures.tells c.in-Ok.ensures.system)

pub returns-in-Err-clause-serves : goal.returns-in-Err-clause-serves
returns-in-Err-clause-serves g c = rw c.in-Some.is (space_serves _ _ (Err _) _ _ c.in-Err.ensures.tells c.in-Err.ensures.system)
