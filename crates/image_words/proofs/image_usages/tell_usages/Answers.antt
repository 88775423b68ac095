use Rattle.std.proofs.Common.{inl, inr, refl, sym, subst}
use Rattle.image_jobs.specs.InquiryWords.{place_spelled}
use Rattle.image_words.specs.ImageUsages.{IsUsageText}
use Rattle.image_words.proofs.image_usages.tell_usages.Goals as goal

pub returns-in-Err : goal.returns-in-Err
returns-in-Err g c = inl (c.in-Err.ensures.err, refl)

pub returns-in-Ok-write_out : goal.returns-in-Ok-write_out
returns-in-Ok-write_out g c = (
  c.as_slice.result.now,
  subst (IsUsageText (place_spelled c.args.path c.args.view) (g.F.ImageFiles.held c.args.files.now c.args.name.now)) (sym c.as_slice.ensures.value) c.in-Ok.ensures.ok,
  c.in-Ok-write_out.ensures.ok,
)

pub returns : goal.returns
returns g c = inr (
  c.as_slice.result.now,
  c.in-Err-write_out.ensures.err.0,
  subst (IsUsageText (place_spelled c.args.path c.args.view) (g.F.ImageFiles.held c.args.files.now c.args.name.now)) (sym c.as_slice.ensures.value) c.in-Ok.ensures.ok,
  refl,
  c.in-Err-write_out.ensures.err.1,
)
