use Rattle.std.proofs.Common.{inr}
use Rattle.std.proofs.lemmas.Result.{IfErr-weaker, IfOk-weaker}
use Rattle.copy_jobs.proofs.source.save_rest.Goals as goal

pub returns-in-Damaged-clause-ok : goal.returns-in-Damaged-clause-ok
returns-in-Damaged-clause-ok g c = IfOk-weaker c.make_source.result _ _ (λ source both. (c.in-Some.rest, c.in-Some.is, c.in-Damaged.is, both.0, both.1)) c.make_source.ensures.ok

pub returns-in-Damaged-clause-err : goal.returns-in-Damaged-clause-err
returns-in-Damaged-clause-err g c = IfErr-weaker c.make_source.result _ _ (λ failure why. inr (c.in-Some.rest, c.in-Some.is, why)) c.make_source.ensures.err
