use Rattle.std.proofs.Common.{◌≡◌, Err, ap, ◌∙◌}
use Rattle.std.proofs.lemmas.Result.{err_from_is_err_and}
use Rattle.trial_update.specs.Trials.{keeping}
use Rattle.trial_update.proofs.Turning.{all_left, one_done, one_refused, last_answered}
use Rattle.trial_update.proofs.trial.keep.Goals as goal

pub returns-in_err-begin : goal.returns-in_err-begin
returns-in_err-begin g c =
    let l0 = all_left c.args.fs.now (keeping c.args.trial.now c.args.good.now) in
    let p = err_from_is_err_and c.from_residual.result c.from_residual.ensures.1 in
    let is : c.from_residual.result ≡ Err c.in_err-begin.field-0.0 = p.1 ∙ ap (λ f. Err f) p.2 in
    one_refused _ _ _ _ _ _ _ _ is l0 c.in_err-begin.ensures.step

pub returns-in_err-unlink : goal.returns-in_err-unlink
returns-in_err-unlink g c =
    let l0 = all_left c.args.fs.now (keeping c.args.trial.now c.args.good.now) in
    let l1 = one_done _ _ _ _ _ _ l0 c.in_ok-begin.ensures.step in
    let p = err_from_is_err_and c.from_residual-in_err-unlink.result c.from_residual-in_err-unlink.ensures.1 in
    let is : c.from_residual-in_err-unlink.result ≡ Err c.in_err-unlink.field-0.0 = p.1 ∙ ap (λ f. Err f) p.2 in
    one_refused _ _ _ _ _ _ _ _ is l1 c.in_err-unlink.ensures.step

pub returns-in_err-end : goal.returns-in_err-end
returns-in_err-end g c =
    let l0 = all_left c.args.fs.now (keeping c.args.trial.now c.args.good.now) in
    let l1 = one_done _ _ _ _ _ _ l0 c.in_ok-begin.ensures.step in
    let l2 = one_done _ _ _ _ _ _ l1 c.in_ok-unlink.ensures.step in
    let p = err_from_is_err_and c.from_residual-in_err-end.result c.from_residual-in_err-end.ensures.1 in
    let is : c.from_residual-in_err-end.result ≡ Err c.in_err-end.field-0.0 = p.1 ∙ ap (λ f. Err f) p.2 in
    one_refused _ _ _ _ _ _ _ _ is l2 c.in_err-end.ensures.step

pub returns-in_err-remove_checkpoint : goal.returns-in_err-remove_checkpoint
returns-in_err-remove_checkpoint g c =
    let l0 = all_left c.args.fs.now (keeping c.args.trial.now c.args.good.now) in
    let l1 = one_done _ _ _ _ _ _ l0 c.in_ok-begin.ensures.step in
    let l2 = one_done _ _ _ _ _ _ l1 c.in_ok-unlink.ensures.step in
    let l3 = one_done _ _ _ _ _ _ l2 c.in_ok-end.ensures.step in
    let p = err_from_is_err_and c.from_residual-in_err-remove_checkpoint.result c.from_residual-in_err-remove_checkpoint.ensures.1 in
    let is : c.from_residual-in_err-remove_checkpoint.result ≡ Err c.in_err-remove_checkpoint.field-0.0 = p.1 ∙ ap (λ f. Err f) p.2 in
    one_refused _ _ _ _ _ _ _ _ is l3 c.in_err-remove_checkpoint.ensures.step

pub returns-in_err-checkpoint : goal.returns-in_err-checkpoint
returns-in_err-checkpoint g c =
    let l0 = all_left c.args.fs.now (keeping c.args.trial.now c.args.good.now) in
    let l1 = one_done _ _ _ _ _ _ l0 c.in_ok-begin.ensures.step in
    let l2 = one_done _ _ _ _ _ _ l1 c.in_ok-unlink.ensures.step in
    let l3 = one_done _ _ _ _ _ _ l2 c.in_ok-end.ensures.step in
    let l4 = one_done _ _ _ _ _ _ l3 c.in_ok-remove_checkpoint.ensures.step in
    let p = err_from_is_err_and c.from_residual-in_err-checkpoint.result c.from_residual-in_err-checkpoint.ensures.1 in
    let is : c.from_residual-in_err-checkpoint.result ≡ Err c.in_err-checkpoint.field-0.0 = p.1 ∙ ap (λ f. Err f) p.2 in
    one_refused _ _ _ _ _ _ _ _ is l4 c.in_err-checkpoint.ensures.step

pub returns : goal.returns
returns g c =
    let l0 = all_left c.args.fs.now (keeping c.args.trial.now c.args.good.now) in
    let l1 = one_done _ _ _ _ _ _ l0 c.in_ok-begin.ensures.step in
    let l2 = one_done _ _ _ _ _ _ l1 c.in_ok-unlink.ensures.step in
    let l3 = one_done _ _ _ _ _ _ l2 c.in_ok-end.ensures.step in
    let l4 = one_done _ _ _ _ _ _ l3 c.in_ok-remove_checkpoint.ensures.step in
    let l5 = one_done _ _ _ _ _ _ l4 c.in_ok-checkpoint.ensures.step in
    last_answered _ _ _ _ _ _ l5 c.sync.ensures.step
