use Rattle.std.proofs.Common.{inr, ap, sym, ◌∙◌, arith}
use Rattle.flash_simulation.specs.Images.{image_of}
use Rattle.remote_flash.proofs.Longest.{length-image}
use Rattle.remote_flash.proofs.Starting.{length_told, image_told}
use Rattle.remote_flash.specs.declared.start.StartFault.TheVariants.{Image}
use Rattle.remote_flash.proofs.start.read_flash.Goals as goal

pub returns-then-length-gt-LONGEST_IMAGE-clause-read : goal.returns-then-length-gt-LONGEST_IMAGE-clause-read
returns-then-length-gt-LONGEST_IMAGE-clause-read g c = λ d rest image told.
    let same = (length_told _ _ c.in_ok-length.length (image_of d) rest (length-image d image) c.in_ok-length.ensures.fits told c.in_ok-length.ensures.ok).0 in
    absurd (omega (arith, same, length-image d image, c.if-length-gt-LONGEST_IMAGE.true))

pub returns-in-Ok-clause-read : goal.returns-in-Ok-clause-read
returns-in-Ok-clause-read g c = λ d rest image told.
    let both = length_told _ _ c.in_ok-length.length (image_of d) rest (length-image d image) c.in_ok-length.ensures.fits told c.in_ok-length.ensures.ok in
    let len = sym c.in_ok-bytes.bytes.ok.0 ∙ c.in_ok-bytes.ensures.len ∙ both.0 in
    let bytes = image_told _ _ (image_of d) rest c.in_ok-bytes.bytes.items both.1 c.in_ok-bytes.ensures.ok len in
    c.in-Ok.ensures.read d image (c.deref.ensures.value ∙ bytes)

pub returns-clause-read : goal.returns-clause-read
returns-clause-read g c = λ d rest image told.
    let both = length_told _ _ c.in_ok-length.length (image_of d) rest (length-image d image) c.in_ok-length.ensures.fits told c.in_ok-length.ensures.ok in
    let len = sym c.in_ok-bytes.bytes.ok.0 ∙ c.in_ok-bytes.ensures.len ∙ both.0 in
    let bytes = image_told _ _ (image_of d) rest c.in_ok-bytes.bytes.items both.1 c.in_ok-bytes.ensures.ok len in
    inr (ap Image (c.in-Err.ensures.read d image (c.deref.ensures.value ∙ bytes)))
