use Rattle.std.proofs.Common.{ℕ, true, Some, Ok, Err, List, ap, refl, subst}
use Rattle.host_interface.specs.Files.{ReadsClaimed}
use Rattle.image_jobs.specs.Images.{RunEnds, host_at}
use Rattle.image_words.proofs.history_changes.run_unprinted.Goals as goal

pub returns-in-Ok-clause-ends : goal.returns-in-Ok-clause-ends
returns-in-Ok-clause-ends g c = (
  Ok c.in-Ok.field-0,
  Some c.run_image.new.reader.now,
  Some c.run_image.new.out.items,
  subst
      (λ (l : List ℕ). RunEnds true c.args.name.now (ReadsClaimed g.F.ImageFiles.claims g.F.ImageFiles.reads c.args.name.now) (host_at (g.F.ImageFiles.held c.args.files.now) (Some c.args.script.now) (Some l))
      (Ok c.in-Ok.field-0) (host_at (g.F.ImageFiles.held c.run_image.new.files) (Some c.run_image.new.reader.now) (Some c.run_image.new.out.items)))
      c.new-replies.ensures.items c.in-Ok.ensures.ends,
  refl,
)

pub returns-clause-ends : goal.returns-clause-ends
returns-clause-ends g c = (
  Err c.in-Err.failure,
  Some c.run_image.new.reader.now,
  Some c.run_image.new.out.items,
  subst
      (λ (l : List ℕ). RunEnds true c.args.name.now (ReadsClaimed g.F.ImageFiles.claims g.F.ImageFiles.reads c.args.name.now) (host_at (g.F.ImageFiles.held c.args.files.now) (Some c.args.script.now) (Some l))
      (Err c.in-Err.failure) (host_at (g.F.ImageFiles.held c.run_image.new.files) (Some c.run_image.new.reader.now) (Some c.run_image.new.out.items)))
      c.new-replies.ensures.items c.in-Err.ensures.ends,
  ap Err c.unprinted.ensures,
)
