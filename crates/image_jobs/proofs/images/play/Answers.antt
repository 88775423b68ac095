use Rattle.std.proofs.Common.{Some, Ok, Err, inr, refl, sym, ap}
use Rattle.image_jobs.specs.declared.failure.Failure.{Failure}
use Rattle.image_jobs.proofs.images.play.Goals as goal

pub returns-in-Ok-None : goal.returns-in-Ok-None
returns-in-Ok-None g c =
    let ends = rw c.in-Ok-None.field-0-is at c.in-Ok-None.ensures.ends in (c.in_ok-flash.flash, c.in_ok-flash.ensures.ok, ends)

pub returns-in-Err : goal.returns-in-Err
returns-in-Err g c =
    inr (c.in_ok-flash.flash, c.run_script_until.new.flash, Err c.in-Err.fault, c.in_ok-flash.ensures.ok, c.in-Err.ensures.ends, sym (ap (λ (f : Failure). Some f) c.of_script.ensures))

pub returns-in-Ok-Some : goal.returns-in-Ok-Some
returns-in-Ok-Some g c =
    let ends = rw c.in-Ok-Some.field-0-is at c.in-Ok-Some.ensures.ends in
    inr (c.in_ok-flash.flash, c.run_script_until.new.flash, Ok (Some c.in-Ok-Some.stop), c.in_ok-flash.ensures.ok, ends, refl)
