use Rattle.std.proofs.Common.{inl, refl}
use Rattle.image_jobs.specs.InquiryWords.{tree_spelled}
use Rattle.image_jobs.proofs.AskLemmas.{told_spelled}
use Rattle.image_jobs.proofs.inquiries_told.tell_tree.Goals as goal

pub returns-in-Ok : goal.returns-in-Ok
returns-in-Ok g c =
    told_spelled (tree_spelled c.args.view) c.in-Ok.inquiry (g.F.ImageFiles.held c.args.files.now c.args.name.now) c.tell_image.result
    (g.W.Write.contents c.args.out.now) (g.W.Write.contents c.tell_image.new.out) c.in-Ok.ensures.ok c.tell_image.ensures

pub returns-in-Err : goal.returns-in-Err
returns-in-Err g c = inl (inl c.in-Err.ensures.err, refl)
