use Rattle.std.proofs.Common.{◌≡◌, Err, ap, ◌∙◌}
use Rattle.std.proofs.lemmas.Result.{err_from_is_err_and}
use Rattle.trial_update.specs.Trials.{taking_off}
use Rattle.trial_update.proofs.Turning.{all_left, one_done, one_refused, last_answered}
use Rattle.trial_update.proofs.trial.take_off.Goals as goal

pub returns-in_err-leave : goal.returns-in_err-leave
returns-in_err-leave g c =
    let l0 = all_left c.args.fs.now (taking_off c.args.trial.now c.args.left) in
    let p = err_from_is_err_and c.from_residual.result c.from_residual.ensures.1 in
    let is : c.from_residual.result ≡ Err c.in_err-leave.field-0.0 = p.1 ∙ ap (λ f. Err f) p.2 in
    one_refused _ _ _ _ _ _ _ _ is l0 c.in_err-leave.ensures

pub returns : goal.returns
returns g c =
    let l0 = all_left c.args.fs.now (taking_off c.args.trial.now c.args.left) in
    let l1 = one_done _ _ _ _ _ _ l0 c.in_ok-leave.ensures in
    last_answered _ _ _ _ _ _ l1 c.sync.ensures.step
