use Rattle.std.proofs.Common.{◌≡◌, Err, ap, ◌∙◌, map, [], ◌∷◌}
use Rattle.std.proofs.lemmas.Result.{err_from_is_err_and}
use Rattle.fs_types.specs.declared.call.Call.{Call}
use Rattle.trial_update.specs.Trials.{writing, leaving, beginning}
use Rattle.trial_update.proofs.Turning.{all_left, one_done, one_refused, last_answered, part_done, part_refused}
use Rattle.trial_update.proofs.trial.begin_update.Goals as goal

pub returns-in_err-begin : goal.returns-in_err-begin
returns-in_err-begin g c =
    let l0 = all_left c.args.fs.now (beginning c.args.trial.now c.args.files.now) in
    let p = err_from_is_err_and c.from_residual.result c.from_residual.ensures.1 in
    let is : c.from_residual.result ≡ Err c.in_err-begin.field-0.0 = p.1 ∙ ap (λ f. Err f) p.2 in
    one_refused _ _ _ _ _ _ _ _ is l0 c.in_err-begin.ensures.step

pub returns-in_err-write_files : goal.returns-in_err-write_files
returns-in_err-write_files g c =
    let l0 = all_left c.args.fs.now (beginning c.args.trial.now c.args.files.now) in
    let l1 = one_done _ _ _ _ _ _ l0 c.in_ok-begin.ensures.step in
    let p = err_from_is_err_and c.from_residual-in_err-write_files.result c.from_residual-in_err-write_files.ensures.1 in
    let is : c.from_residual-in_err-write_files.result ≡ Err c.in_err-write_files.field-0.0 = p.1 ∙ ap (λ f. Err f) p.2 in
    part_refused _ _ _ (map writing c.args.files.now) (leaving c.args.trial.now 3 ∷ Call.End ∷ Call.Sync ∷ []) _ _ _ is l1 c.in_err-write_files.ensures

pub returns-in_err-leave : goal.returns-in_err-leave
returns-in_err-leave g c =
    let l0 = all_left c.args.fs.now (beginning c.args.trial.now c.args.files.now) in
    let l1 = one_done _ _ _ _ _ _ l0 c.in_ok-begin.ensures.step in
    let l2 = part_done _ _ _ (map writing c.args.files.now) (leaving c.args.trial.now 3 ∷ Call.End ∷ Call.Sync ∷ []) _ l1 c.in_ok-write_files.ensures in
    let p = err_from_is_err_and c.from_residual-in_err-leave.result c.from_residual-in_err-leave.ensures.1 in
    let is : c.from_residual-in_err-leave.result ≡ Err c.in_err-leave.field-0.0 = p.1 ∙ ap (λ f. Err f) p.2 in
    one_refused _ _ _ _ _ _ _ _ is l2 c.in_err-leave.ensures

pub returns-in_err-end : goal.returns-in_err-end
returns-in_err-end g c =
    let l0 = all_left c.args.fs.now (beginning c.args.trial.now c.args.files.now) in
    let l1 = one_done _ _ _ _ _ _ l0 c.in_ok-begin.ensures.step in
    let l2 = part_done _ _ _ (map writing c.args.files.now) (leaving c.args.trial.now 3 ∷ Call.End ∷ Call.Sync ∷ []) _ l1 c.in_ok-write_files.ensures in
    let l3 = one_done _ _ _ _ _ _ l2 c.in_ok-leave.ensures in
    let p = err_from_is_err_and c.from_residual-in_err-end.result c.from_residual-in_err-end.ensures.1 in
    let is : c.from_residual-in_err-end.result ≡ Err c.in_err-end.field-0.0 = p.1 ∙ ap (λ f. Err f) p.2 in
    one_refused _ _ _ _ _ _ _ _ is l3 c.in_err-end.ensures.step

pub returns : goal.returns
returns g c =
    let l0 = all_left c.args.fs.now (beginning c.args.trial.now c.args.files.now) in
    let l1 = one_done _ _ _ _ _ _ l0 c.in_ok-begin.ensures.step in
    let l2 = part_done _ _ _ (map writing c.args.files.now) (leaving c.args.trial.now 3 ∷ Call.End ∷ Call.Sync ∷ []) _ l1 c.in_ok-write_files.ensures in
    let l3 = one_done _ _ _ _ _ _ l2 c.in_ok-leave.ensures in
    let l4 = one_done _ _ _ _ _ _ l3 c.in_ok-end.ensures.step in
    last_answered _ _ _ _ _ _ l4 c.sync.ensures.step
