use Rattle.std.proofs.Common.{inr, subst}
use Rattle.flash_simulation.specs.Simulation.{device_of}
use Rattle.host_interface.specs.Files.{Held, KeepsOthers}
use Rattle.image_words.specs.PartFiles.{WritesPart}
use Rattle.image_words.proofs.part_files.format_part.Goals as goal

pub returns-in-Ok-formatted_flash-clause-ends : goal.returns-in-Ok-formatted_flash-clause-ends
returns-in-Ok-formatted_flash-clause-ends g c =
    let flash = c.in-Ok-formatted_flash.flash in
    let written = subst (λ (h : Held). WritesPart (device_of flash) (h c.args.name.now) (g.F.ImageFiles.held c.write_part.new.files c.args.name.now) c.write_part.result)
    c.claim.ensures.same c.write_part.ensures.ends in
    inr (flash, c.in-Ok-formatted_flash.ensures.ok, written)

pub returns-in-Ok-formatted_flash-clause-others : goal.returns-in-Ok-formatted_flash-clause-others
returns-in-Ok-formatted_flash-clause-others g c =
    subst (λ (h : Held). KeepsOthers c.args.name.now h (g.F.ImageFiles.held c.write_part.new.files)) c.claim.ensures.same c.write_part.ensures.others
