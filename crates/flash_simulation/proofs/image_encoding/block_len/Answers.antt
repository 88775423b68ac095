use Rattle.std.proofs.Common.{◌≡◌, ◌<◌, ◌≤◌, ◌+◌, ◌*◌, ℕ, ap, ◌∙◌, length, arith}
use Rattle.flash_model.specs.declared.geometry.Geometry.{Geometry}
use Rattle.flash_simulation.specs.Simulation.{device_of}
use Rattle.flash_simulation.specs.Images.{place_text, page_text}
use Rattle.flash_simulation.proofs.ImageGrowing.{length-begun, length-grown, place_text-most}
use Rattle.flash_simulation.proofs.ImageStops.{has_image}
use Rattle.flash_simulation.proofs.image_encoding.block_len.Goals as goal

pub loop-place-init : goal.loop-place-init
loop-place-init c = record {
  is = omega (arith, length-begun (place_text (device_of c.args.flash.now) c.args.block));
  most = omega arith;
}

pub loop-place-preserved : goal.loop-place-preserved
loop-place-preserved c =
    let d = device_of c.args.flash.now in
    let text = ap page_text (c.page.ensures ∙ ap (λ (p : ℕ). d.pages p) (c.page_number.ensures.value ∙ ap (λ (k : ℕ). c.args.block * k + c.loop-place.place) (ap (λ (g : Geometry). g.pages) c.geometry-sizes.ensures))) in
    let len : c.page_len-len.result ≡ length (place_text d c.args.block c.loop-place.place) = c.page_len-len.ensures ∙ ap length text in
    let pages : c.geometry-sizes.result.pages ≡ d.geometry.pages = ap (λ (g : Geometry). g.pages) c.geometry-sizes.ensures in
    let in_block : c.loop-place.place < d.geometry.pages = omega arith in
    let most : length (place_text d c.args.block c.loop-place.place) ≤ 4097 = place_text-most d c.args.block c.loop-place.place (has_image c.args.flash.now) c.requires in_block in
    record {
      is = length-grown c.loop-place.place (place_text d c.args.block) 1 c.loop-place.len c.page_len-len.result c.loop-place.invariant.is len;
      most = omega (arith, c.loop-place.invariant.most);
    }
