use Rattle.std.proofs.Common.{inl, inr, refl}
use Rattle.image_jobs.specs.InquiryWords.{differences_spelled}
use Rattle.image_jobs.proofs.AskLemmas.{diff_spelled}
use Rattle.image_jobs.proofs.inquiries_told.tell_differences.Goals as goal

pub returns-in-Ok : goal.returns-in-Ok
returns-in-Ok g c =
    diff_spelled c.args.exit_code (differences_spelled c.args.view c.args.other) c.in-Ok.inquiry (g.F.ImageFiles.held c.args.files.now c.args.name.now) c.tell_with_status.result
    (g.W.Write.contents c.args.out.now) (g.W.Write.contents c.tell_with_status.new.out) c.in-Ok.ensures.ok c.tell_with_status.ensures

pub returns-in-Err : goal.returns-in-Err
returns-in-Err g c = inr (c.in-Err.failure, refl, inl (inl c.in-Err.ensures.err, refl))
