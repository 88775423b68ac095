use Rattle.std.proofs.Common.{inl, inr}
use Rattle.std.proofs.lemmas.Result.{err_from_is_err_and}
use Rattle.image_jobs.proofs.inquiries_told.ask_image.Goals as goal

pub returns-in_err-flash-clause-err : goal.returns-in_err-flash-clause-err
returns-in_err-flash-clause-err g c =
    let p = err_from_is_err_and c.from_residual.result c.from_residual.ensures.1 in
    rw (p.1, p.2) (inl c.in_err-flash.ensures.err)

pub returns-in-Ok-clause-ok : goal.returns-in-Ok-clause-ok
returns-in-Ok-clause-ok g c = (c.in_ok-flash.flash, c.in_ok-flash.ensures.ok, c.in-Ok.ensures.ok)

pub returns-clause-err : goal.returns-clause-err
returns-clause-err g c = inr (c.in_ok-flash.flash, c.ask_as_planned.new.flash, c.in-Err.fault, c.in_ok-flash.ensures.ok, c.in-Err.ensures.err, c.ask_as_planned.ensures.plan, c.of_ask.ensures)
