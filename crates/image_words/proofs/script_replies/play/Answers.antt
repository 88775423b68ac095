use Rattle.std.proofs.Common.{Some, Ok, Err, inr, refl, sym, ap}
use Rattle.image_jobs.specs.declared.failure.Failure.{Failure}
use Rattle.image_words.proofs.script_replies.play.Goals as goal

pub returns-in-Ok-None : goal.returns-in-Ok-None
returns-in-Ok-None g c =
    let ends = rw c.in-Ok-None.field-0-is at c.in-Ok-None.ensures.ends in (c.in-Ok.flash, c.in-Ok.ensures.ok, ends)

pub returns-in-Err-run_script_until : goal.returns-in-Err-run_script_until
returns-in-Err-run_script_until g c =
    inr (c.in-Ok.flash, c.run_script_until.new.flash, Err c.in-Err-run_script_until.fault, c.in-Ok.ensures.ok, c.in-Err-run_script_until.ensures.ends, sym (ap (λ (f : Failure). Some f) c.of_script.ensures))

pub returns-in-Ok-Some : goal.returns-in-Ok-Some
returns-in-Ok-Some g c =
    let ends = rw c.in-Ok-Some.field-0-is at c.in-Ok-Some.ensures.ends in
    inr (c.in-Ok.flash, c.run_script_until.new.flash, Ok (Some c.in-Ok-Some.stop), c.in-Ok.ensures.ok, ends, refl)
