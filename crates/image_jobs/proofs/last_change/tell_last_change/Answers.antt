use Rattle.std.proofs.Common.{inl, inr, refl}
use Rattle.std.proofs.lemmas.Result.{err_from_is_err_and}
use Rattle.image_jobs.proofs.last_change.tell_last_change.Goals as goal

pub returns-in_err-before : goal.returns-in_err-before
returns-in_err-before g c =
    let p = err_from_is_err_and c.from_residual.result c.from_residual.ensures.1 in
    rw (p.1, p.2) (inr (c.in_err-before.field-0.0, c.in_err-before.ensures.err, refl, refl))

pub returns : goal.returns
returns g c = inl (c.in_ok-before.before, c.in_ok-before.ensures.ok, c.tell_with_status.ensures)
