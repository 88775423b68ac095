use Rattle.std.proofs.Common.{◌∙◌, [], inl, refl}
use Rattle.std.proofs.lemmas.Result.{IfErr-weaker}
use Rattle.inquiries.specs.Readings.{shown}
use Rattle.copies.proofs.Doing.{call_done, call_left, call_stops, last_stops, touched}
use Rattle.copies.proofs.Removing.{removes}
use Rattle.copies.proofs.Stopping.{unremoved, untouched}
use Rattle.copies.proofs.bringing.touch.Goals as goal

pub returns-in-Ok-clause-ok : goal.returns-in-Ok-clause-ok
returns-in-Ok-clause-ok g c = touched c.args.to.now c.loop-number.to _ _ _ c.rmdir.result c.loop-number.invariant.0 c.in-Ok.ensures.step c.rmdir.ensures.step

pub returns-in-Ok-clause-err : goal.returns-in-Ok-clause-err
returns-in-Ok-clause-err g c =
    IfErr-weaker c.rmdir.result _ _
    (λ fault stops. unremoved (shown c.args.to.now) _ fault _ _ _ c.loop-number.invariant.0 (call_done _ _ _ _ c.in-Ok.ensures.step) stops) (last_stops _ _ c.rmdir.result _ c.rmdir.ensures.step)

pub returns-in-Err-clause-same_flash : goal.returns-in-Err-clause-same_flash
returns-in-Err-clause-same_flash g c = c.in-Err.ensures.step.same_flash ∙ c.loop-number.invariant.1

pub returns-in-Err-clause-err : goal.returns-in-Err-clause-err
returns-in-Err-clause-err g c = untouched (shown c.args.to.now) _ _ _ _ c.loop-number.invariant.0 (call_stops _ _ _ _ c.in-Err.ensures.step)

pub loop-number-preserved : goal.loop-number-preserved
loop-number-preserved g c = (call_left _ _ _ _ c.in-Err-Exists.ensures.step ∙ c.loop-number.invariant.0, c.in-Err-Exists.ensures.step.same_flash ∙ c.loop-number.invariant.1)

pub returns-in-Ok-clause-finds : goal.returns-in-Ok-clause-finds
returns-in-Ok-clause-finds g c = removes _ _ c.rmdir.result _ c.rmdir.ensures.step

pub returns-clause-err : goal.returns-clause-err
returns-clause-err g c = ([], inl refl)
