use Rattle.std.proofs.Common.{◌≡◌, Err, ap, ◌∙◌}
use Rattle.std.proofs.lemmas.Result.{err_from_is_err_and}
use Rattle.trial_update.specs.Trials.{giving_up}
use Rattle.trial_update.proofs.Turning.{all_left, one_done, one_refused, last_answered}
use Rattle.trial_update.proofs.trial.give_up.Goals as goal

pub returns-in_err-rollback : goal.returns-in_err-rollback
returns-in_err-rollback g c =
    let l0 = all_left c.args.fs.now (giving_up c.args.good.now) in
    let p = err_from_is_err_and c.from_residual.result c.from_residual.ensures.1 in
    let is : c.from_residual.result ≡ Err c.in_err-rollback.field-0.0 = p.1 ∙ ap (λ f. Err f) p.2 in
    one_refused _ _ _ _ _ _ _ _ is l0 c.in_err-rollback.ensures.step

pub returns : goal.returns
returns g c =
    let l0 = all_left c.args.fs.now (giving_up c.args.good.now) in
    let l1 = one_done _ _ _ _ _ _ l0 c.in_ok-rollback.ensures.step in
    last_answered _ _ _ _ _ _ l1 c.sync.ensures.step
