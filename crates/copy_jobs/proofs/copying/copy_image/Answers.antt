use Rattle.std.proofs.Common.{inl, inr, refl, subst}
use Rattle.host_interface.specs.Files.{Held}
use Rattle.copy_jobs.specs.Copying.{SavesCopy}
use Rattle.copy_jobs.proofs.copying.copy_image.Goals as goal

pub returns-in-Ok-claim-clause-ends : goal.returns-in-Ok-claim-clause-ends
returns-in-Ok-claim-clause-ends g c =
    let copy = c.in-Ok-make_copy.copy in
    let left = g.F.ImageFiles.held c.save_copy.new.files c.args.name.now in
    let saved = subst (λ (h : Held). SavesCopy copy (h c.args.name.now) left c.save_copy.result) c.claim.ensures.same c.save_copy.ensures.ends in
    inr (c.in-Ok-load.flash, c.in-Ok.ensures.ok, c.in-Ok-load.ensures.ok, inr (copy, c.in-Ok-make_copy.ensures.ok, saved))

pub returns-in-Err-make_copy-clause-ends : goal.returns-in-Err-make_copy-clause-ends
returns-in-Err-make_copy-clause-ends g c =
    inr (c.in-Ok-load.flash, c.in-Ok.ensures.ok, c.in-Ok-load.ensures.ok, inl (c.in-Err-make_copy.failure, refl, c.in-Err-make_copy.ensures.err, refl))
