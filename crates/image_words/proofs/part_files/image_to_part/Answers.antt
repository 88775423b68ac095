use Rattle.std.proofs.Common.{inr, subst}
use Rattle.flash_simulation.specs.Simulation.{device_of}
use Rattle.host_interface.specs.Files.{Held}
use Rattle.image_words.specs.PartFiles.{WritesPart}
use Rattle.image_words.proofs.part_files.image_to_part.Goals as goal

pub returns-in-Ok-claim-clause-ends : goal.returns-in-Ok-claim-clause-ends
returns-in-Ok-claim-clause-ends g c =
    let flash = c.in-Ok-load.flash in
    let written = subst (λ (h : Held). WritesPart (device_of flash) (h c.args.name.now) (g.F.ImageFiles.held c.write_part.new.files c.args.name.now) c.write_part.result)
    c.claim.ensures.same c.write_part.ensures.ends in
    inr (flash, c.in-Ok.ensures.ok, c.in-Ok-load.ensures.ok, written)
