use Rattle.std.proofs.lemmas.Result.{err_from_is_err_and}
use Rattle.image_jobs.specs.InquiryWords.{view_spelled}
use Rattle.image_jobs.proofs.AskLemmas.{old_misspelled, new_misspelled, differences_there}
use Rattle.image_jobs.proofs.inquiries_told.difference_inquiry.Goals as goal

pub returns-in_err-old-clause-err : goal.returns-in_err-old-clause-err
returns-in_err-old-clause-err c =
    let p = err_from_is_err_and c.from_residual.result c.from_residual.ensures.1 in
    rw (p.1, p.2) (old_misspelled (view_spelled c.args.view) (view_spelled c.args.other) c.in_err-old.field-0.0 c.in_err-old.ensures.err)

pub returns-in-Ok-clause-ok : goal.returns-in-Ok-clause-ok
returns-in-Ok-clause-ok c =
    differences_there (view_spelled c.args.view) (view_spelled c.args.other) c.in_ok-old.old c.in-Ok.new c.in_ok-old.ensures.ok c.in-Ok.ensures.ok

pub returns-in-Err-clause-err : goal.returns-in-Err-clause-err
returns-in-Err-clause-err c =
    new_misspelled (view_spelled c.args.view) (view_spelled c.args.other) c.in_ok-old.old c.in-Err.failure c.in_ok-old.ensures.ok c.in-Err.ensures.err
