use Rattle.std.proofs.Common.{ap}
use Rattle.image_jobs.specs.InquiryWords.{view_spelled, tree_in}
use Rattle.image_jobs.proofs.AskLemmas.{tree_misspelled}
use Rattle.image_jobs.proofs.inquiries_told.tree_inquiry.Goals as goal

pub returns-in-Ok-clause-ok : goal.returns-in-Ok-clause-ok
returns-in-Ok-clause-ok c = ap tree_in c.in-Ok.ensures.ok

pub returns-in-Err-clause-err : goal.returns-in-Err-clause-err
returns-in-Err-clause-err c = tree_misspelled (view_spelled c.args.view) c.in-Err.failure c.in-Err.ensures.err
