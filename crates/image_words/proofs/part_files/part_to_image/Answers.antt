use Rattle.std.proofs.Common.{inr, subst}
use Rattle.flash_simulation.specs.Simulation.{device_of}
use Rattle.host_interface.specs.Files.{Held}
use Rattle.image_words.specs.PartFiles.{WritesImage}
use Rattle.image_words.proofs.part_files.part_to_image.Goals as goal

pub returns-in-Ok-claim-clause-ends : goal.returns-in-Ok-claim-clause-ends
returns-in-Ok-claim-clause-ends g c =
    let flash = c.in-Ok-load_part.flash in
    let written = subst (λ (h : Held). WritesImage (device_of flash) (h c.args.name.now) (g.F.ImageFiles.held c.save_flash.new.files c.args.name.now) c.save_flash.result)
    c.claim.ensures.same c.save_flash.ensures.ends in
    inr (flash, c.in-Ok.ensures.ok, c.in-Ok-load_part.ensures.ok, written)
