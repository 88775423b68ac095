use Rattle.std.proofs.Common.{◌≡◌, ◌<◌, ◌∙◌, List, ℕ, length, refl, subst, rules}
use Rattle.flash_simulation.specs.Simulation.{device_of}
use Rattle.flash_simulation.specs.Images.{image_of}
use Rattle.image_buffer.specs.Buffers.{HoldsAtFront}
use Rattle.image_buffer.proofs.buffers.format_buffer.Goals as goal

pub returns-then-len-buffer : goal.returns-then-len-buffer
returns-then-len-buffer c =
    let longer : length c.args.buffer.now < length c.in_ok-image.image.items = search rules in
    ((c.in_ok-flash.flash, c.in_ok-flash.ensures.ok, subst (λ (xs : List ℕ). length c.args.buffer.now < length xs) c.in_ok-image.ensures.ok longer), refl)

pub returns : goal.returns
returns c =
    let lent : c.deref.result.now ≡ image_of (device_of c.in_ok-flash.flash) = c.deref.ensures.value ∙ c.in_ok-image.ensures.ok in
    (c.in_ok-flash.flash, c.in_ok-flash.ensures.ok, subst (λ (xs : List ℕ). HoldsAtFront c.args.buffer.now xs c.put_front.result c.put_front.new.buffer) lent c.put_front.ensures)
