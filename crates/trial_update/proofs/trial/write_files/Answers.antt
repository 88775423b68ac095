use Rattle.std.proofs.Common.{◌≡◌, Err, ap, ◌∙◌, map}
use Rattle.std.proofs.lemmas.Result.{err_from_is_err_and}
use Rattle.trial_update.specs.Trials.{writing}
use Rattle.trial_update.proofs.Turning.{all_left, one_done, one_refused, next_left, written_as, none_left}
use Rattle.trial_update.proofs.trial.write_files.Goals as goal

pub loop-file-init : goal.loop-file-init
loop-file-init g c = all_left c.args.fs.now (map writing c.args.files.now)

pub loop-file-preserved : goal.loop-file-preserved
loop-file-preserved g c =
    let left = next_left c.args.fs.now (map writing c.args.files.now) writing c.args.files.now c.loop-file.file-index c.file-item.result c.loop-file.fs
    c.loop-file-test.true c.file-item.is c.loop-file.invariant in
    one_done _ _ _ _ _ c.write_file.new.self left (written_as _ _ _ _ _ _ c.deref.ensures.value c.in_ok-write_file.ensures.step)

pub returns-in_err-write_file : goal.returns-in_err-write_file
returns-in_err-write_file g c =
    let left = next_left c.args.fs.now (map writing c.args.files.now) writing c.args.files.now c.loop-file.file-index c.file-item.result c.loop-file.fs
    c.loop-file-test.true c.file-item.is c.loop-file.invariant in
    let p = err_from_is_err_and c.from_residual.result c.from_residual.ensures.1 in
    let is : c.from_residual.result ≡ Err c.in_err-write_file.field-0.0 = p.1 ∙ ap (λ f. Err f) p.2 in
    one_refused _ _ _ _ _ c.write_file.new.self _ _ is left (written_as _ _ _ _ _ _ c.deref.ensures.value c.in_err-write_file.ensures.step)

pub returns : goal.returns
returns g c = none_left c.args.fs.now (map writing c.args.files.now) writing c.args.files.now c.loop-file.file-index c.loop-file.fs c.loop-file-test.false c.loop-file.invariant
