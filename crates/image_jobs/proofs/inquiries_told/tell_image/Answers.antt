use Rattle.std.proofs.Common.{Ok, inl, inr, refl}
use Rattle.std.proofs.lemmas.Result.{err_from_is_err_and}
use Rattle.image_jobs.proofs.AskLemmas.{told_written, told_cut}
use Rattle.image_jobs.proofs.inquiries_told.tell_image.Goals as goal

pub returns-in_err-bytes : goal.returns-in_err-bytes
returns-in_err-bytes g c =
    let p = err_from_is_err_and c.from_residual.result c.from_residual.ensures.1 in
    rw (p.1, p.2) (inl (inr (c.args.inquiry.now, refl, c.in_err-bytes.ensures.err), refl))

pub returns-in-Ok : goal.returns-in-Ok
returns-in-Ok g c =
    told_written (Ok c.args.inquiry.now) (g.F.ImageFiles.held c.args.files.now c.args.name.now) c.args.inquiry.now c.in_ok-bytes.bytes c.as_slice.result.now
    (g.W.Write.contents c.args.out.now) (g.W.Write.contents c.write_out.new.writer) refl c.in_ok-bytes.ensures.ok c.as_slice.ensures c.in-Ok.ensures.ok

pub returns : goal.returns
returns g c =
    told_cut (Ok c.args.inquiry.now) (g.F.ImageFiles.held c.args.files.now c.args.name.now) c.args.inquiry.now c.in_ok-bytes.bytes c.as_slice.result.now c.in-Err.ensures.err.0
    (g.W.Write.contents c.args.out.now) (g.W.Write.contents c.write_out.new.writer) refl c.in_ok-bytes.ensures.ok c.as_slice.ensures c.in-Err.ensures.err.1
