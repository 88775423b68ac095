use Rattle.std.proofs.Common.{inl, inr, refl}
use Rattle.image_jobs.proofs.ImageLemmas.{check_said}
use Rattle.image_jobs.proofs.images.check_image.Goals as goal

pub returns-in-Ok : goal.returns-in-Ok
returns-in-Ok g c =
    check_said (g.F.ImageFiles.held c.args.files.now c.args.name.now) c.in_ok-flash.flash c.mount_as_planned.new.flash c.in-Ok.field-0 c.write_ok.result
    (g.W.Write.contents c.args.out.now) (g.W.Write.contents c.write_ok.new.out)
    c.in_ok-flash.ensures.ok c.in-Ok.ensures.ok c.write_ok.ensures.ok c.write_ok.ensures.err

pub returns : goal.returns
returns g c = inr (inl (c.in_ok-flash.flash, c.mount_as_planned.new.flash, c.in-Err.fault, c.in_ok-flash.ensures.ok, (record { cause = c.in-Err.ensures.why; reads = c.mount_as_planned.ensures.only_reads }, c.mount_as_planned.ensures.plan), c.of_system.ensures, refl))
