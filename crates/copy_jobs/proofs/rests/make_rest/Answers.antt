use Rattle.std.proofs.Common.{ℕ, inr, subst}
use Rattle.script_runs.specs.Flashes.{IsMade}
use Rattle.copy_jobs.proofs.rests.make_rest.Goals as goal

pub returns-in-Err-put_rest-clause-err : goal.returns-in-Err-put_rest-clause-err
returns-in-Err-put_rest-clause-err g c = inr (c.in-Ok.one, subst (λ (n : ℕ). IsMade c.args.sizes n c.in-Ok.one) c.from-limit.ensures c.in-Ok.ensures.ok, c.in-Err-put_rest.ensures.err)
