use Rattle.std.proofs.Common.{Ok, inl, inr, refl}
use Rattle.std.proofs.lemmas.Result.{err_from_is_err_and}
use Rattle.image_jobs.specs.declared.failure.Failure.{Failure}
use Rattle.image_jobs.proofs.AskLemmas.{told_with_status, told_cut}
use Rattle.image_jobs.proofs.inquiries_told.tell_with_status.Goals as goal

pub returns-in_err-bytes : goal.returns-in_err-bytes
returns-in_err-bytes g c =
    let p = err_from_is_err_and c.from_residual.result c.from_residual.ensures.1 in
    rw (p.1, p.2) (inr (c.in_err-bytes.field-0.0, refl, inl (inr (c.args.inquiry.now, refl, c.in_err-bytes.ensures.err), refl)))

pub returns-in-Ok : goal.returns-in-Ok
returns-in-Ok g c =
    told_with_status c.args.exit_code (g.F.ImageFiles.held c.args.files.now c.args.name.now) c.args.inquiry.now c.in_ok-bytes.bytes c.as_slice-told.result.now c.status_of_told.result
    (g.W.Write.contents c.args.out.now) (g.W.Write.contents c.write_out.new.writer) c.in_ok-bytes.ensures.ok c.as_slice-told.ensures c.in-Ok.ensures.ok c.status_of_told.ensures

pub returns : goal.returns
returns g c = inr (
  Failure.Output,
  refl,
  told_cut (Ok c.args.inquiry.now) (g.F.ImageFiles.held c.args.files.now c.args.name.now) c.args.inquiry.now c.in_ok-bytes.bytes c.as_slice-told.result.now c.in-Err.ensures.err.0
      (g.W.Write.contents c.args.out.now) (g.W.Write.contents c.write_out.new.writer) refl c.in_ok-bytes.ensures.ok c.as_slice-told.ensures c.in-Err.ensures.err.1,
)
