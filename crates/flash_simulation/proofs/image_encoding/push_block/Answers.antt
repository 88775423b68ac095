use Rattle.std.proofs.Common.{◌++◌, ◌+◌, ◌*◌, List, ℕ, ap, sym, ◌∙◌, append_assoc}
use Rattle.flash_model.specs.declared.geometry.Geometry.{Geometry}
use Rattle.flash_simulation.specs.Simulation.{device_of}
use Rattle.flash_simulation.specs.Images.{parts, place_text, page_text, worn_text}
use Rattle.flash_simulation.proofs.ImageGrowing.{begun, grown}
use Rattle.flash_simulation.proofs.image_encoding.push_block.Goals as goal

pub loop-place-init : goal.loop-place-init
loop-place-init c =
    let d = device_of c.args.flash.now in
    c.in_ok-push.ensures.items ∙ ap (λ (t : List ℕ). c.args.image.now.items ++ t) (c.worn_byte.ensures ∙ ap worn_text c.is_worn.ensures)
    ∙ begun (c.args.image.now.items ++ worn_text (d.worn c.args.block)) (place_text d c.args.block)
    ∙ append_assoc c.args.image.now.items (worn_text (d.worn c.args.block)) (parts 0 (place_text d c.args.block))

pub loop-place-preserved : goal.loop-place-preserved
loop-place-preserved c =
    let d = device_of c.args.flash.now in
    let front = c.args.image.now.items ++ worn_text (d.worn c.args.block) in
    let so_far = c.loop-place.invariant ∙ sym (append_assoc c.args.image.now.items (worn_text (d.worn c.args.block)) (parts c.loop-place.place (place_text d c.args.block))) in
    let text = ap page_text (c.page.ensures ∙ ap (λ (p : ℕ). d.pages p) (c.page_number.ensures.value ∙ ap (λ (k : ℕ). c.args.block * k + c.loop-place.place) (ap (λ (g : Geometry). g.pages) c.geometry-sizes.ensures))) in
    grown front c.loop-place.place (place_text d c.args.block) c.loop-place.image.items c.push_page.new.image.items _ so_far c.in_ok-push_page.ensures text
    ∙ append_assoc c.args.image.now.items (worn_text (d.worn c.args.block)) (parts (c.loop-place.place + 1) (place_text d c.args.block))
