use Rattle.std.proofs.Common.{inl, inr, refl, subst}
use Rattle.flash_simulation.specs.Simulation.{device_of}
use Rattle.host_interface.specs.Files.{Held}
use Rattle.image_words.specs.RawImages.{WritesRaw}
use Rattle.image_words.proofs.RawWritten.{raw_written}
use Rattle.image_words.proofs.raw_images.image_to_raw.Goals as goal

pub returns-in-Ok-claim-clause-ends : goal.returns-in-Ok-claim-clause-ends
returns-in-Ok-claim-clause-ends g c =
    let flash = c.in-Ok-load.flash in
    let left = g.F.ImageFiles.held c.write_image.new.files c.args.name.now in
    let made = raw_written (device_of flash) (g.F.ImageFiles.held c.claim.new.files c.args.name.now) left c.in-Ok-raw_bytes.bytes.items c.deref.result.now c.write_image.result c.in-Ok-raw_bytes.ensures.ok c.deref.ensures.value
    c.write_image.ensures.ok c.write_image.ensures.err in
    let written = subst (λ (h : Held). WritesRaw (device_of flash) (h c.args.name.now) left c.write_image.result) c.claim.ensures.same made in
    inr (flash, c.in-Ok.ensures.ok, c.in-Ok-load.ensures.ok, inr written)

pub returns-in-Err-raw_bytes-clause-ends : goal.returns-in-Err-raw_bytes-clause-ends
returns-in-Err-raw_bytes-clause-ends g c =
    inr (c.in-Ok-load.flash, c.in-Ok.ensures.ok, c.in-Ok-load.ensures.ok, inl (c.in-Err-raw_bytes.failure, refl, c.in-Err-raw_bytes.ensures.err, refl))
