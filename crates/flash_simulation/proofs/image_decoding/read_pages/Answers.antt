use Rattle.std.proofs.Common.{◌≡◌, ◌≤◌, ◌+◌, ◌*◌, ◌++◌, List, ℕ, ap, sym, refl, ◌∙◌, arith}
use Rattle.flash_model.specs.declared.geometry.Geometry.{Geometry}
use Rattle.flash_model.specs.Device.{Device}
use Rattle.flash_model.specs.Contents.{shown_page}
use Rattle.flash_simulation.specs.Simulation.{device_of}
use Rattle.flash_simulation.specs.Images.{place_text}
use Rattle.flash_simulation.proofs.ImageParts.{parts-none}
use Rattle.flash_simulation.proofs.ImageFilling.{put_page-fills, put_page-spells}
use Rattle.flash_simulation.proofs.image_decoding.read_pages.Goals as goal

pub loop-place-init : goal.loop-place-init
loop-place-init c = record {
  spelled = ap (λ (t : List ℕ). t ++ c.args.bytes.now) (sym (parts-none (place_text (device_of c.args.flash.now) c.args.block)));
  fills = record { earlier = λ p below. refl; others = refl };
  plan = refl;
}

pub loop-place-preserved : goal.loop-place-preserved
loop-place-preserved c =
    let old = device_of c.args.flash.now in
    let d = device_of c.loop-place.flash in
    let e = device_of c.set_page.new.self in
    let page = shown_page c.in_ok-page.page in
    let kept : d.geometry ≡ old.geometry = ap (λ (x : Device). x.geometry) c.loop-place.invariant.fills.others in
    let sizes : c.geometry-sizes.result.pages ≡ old.geometry.pages = ap (λ (g : Geometry). g.pages) c.geometry-sizes.ensures in
    let number : c.page_number.result ≡ c.args.block * old.geometry.pages + c.loop-place.place = c.page_number.ensures.value ∙ ap (λ (k : ℕ). c.args.block * k + c.loop-place.place) sizes in
    let number' : c.page_number.result ≡ c.args.block * d.geometry.pages + c.loop-place.place = number ∙ ap (λ (g : Geometry). c.args.block * g.pages + c.loop-place.place) (sym kept) in
    let from : c.args.block * old.geometry.pages ≤ c.page_number.result = omega (arith, number) in
    record {
      spelled = put_page-spells d e c.args.block c.loop-place.place c.page_number.result page c.args.bytes.now c.loop-place.rest.now c.in_ok-page.after.now number'
          c.set_page.ensures.page c.loop-place.invariant.spelled c.in_ok-page.ensures.ok;
      fills = put_page-fills old d e (c.args.block * old.geometry.pages) c.page_number.result page from c.loop-place.invariant.fills c.set_page.ensures.page;
      plan = c.set_page.ensures.plan ∙ c.loop-place.invariant.plan;
    }
