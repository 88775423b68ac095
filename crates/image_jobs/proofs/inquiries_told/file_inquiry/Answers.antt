use Rattle.std.proofs.lemmas.Result.{err_from_is_err_and}
use Rattle.image_jobs.specs.InquiryWords.{view_spelled}
use Rattle.image_jobs.specs.PathWords.{path_spelled}
use Rattle.image_jobs.proofs.AskLemmas.{path_misspelled, view_misspelled, file_there}
use Rattle.image_jobs.proofs.inquiries_told.file_inquiry.Goals as goal

pub returns-in_err-path-clause-err : goal.returns-in_err-path-clause-err
returns-in_err-path-clause-err c =
    let p = err_from_is_err_and c.from_residual.result c.from_residual.ensures.1 in
    rw (p.1, p.2) (path_misspelled (path_spelled c.args.path.now) (view_spelled c.args.view) c.in_err-path.field-0.0 c.in_err-path.ensures.err)

pub returns-in-Ok-clause-ok : goal.returns-in-Ok-clause-ok
returns-in-Ok-clause-ok c = file_there (path_spelled c.args.path.now) (view_spelled c.args.view) c.in_ok-path.path c.in-Ok.view c.in_ok-path.ensures.ok c.in-Ok.ensures.ok

pub returns-in-Err-clause-err : goal.returns-in-Err-clause-err
returns-in-Err-clause-err c = view_misspelled (path_spelled c.args.path.now) (view_spelled c.args.view) c.in_ok-path.path c.in-Err.failure c.in_ok-path.ensures.ok c.in-Err.ensures.err
