use Rattle.std.proofs.Common.{◌≡◌, ◌*◌, ◌+◌, ℕ, Option, ap, subst, sym, ◌∙◌, arith}
use Rattle.flash_model.specs.Device.{Page}
use Rattle.flash_model.specs.declared.geometry.Geometry.{Geometry}
use Rattle.flash_simulation.specs.Simulation.{device_of}
use Rattle.image_sizes.proofs.FirstPageLemmas.{newest_more}
use Rattle.image_sizes.specs.FirstPages.{IsNewest, first_page, newer}
use Rattle.image_sizes.specs.declared.record_sizes.FirstPage.{FirstPage}
use Rattle.image_sizes.proofs.record_sizes.newest_page.Goals as goal

pub returns : goal.returns
returns c =
    let device = device_of c.args.flash.now in
    let same : c.geometry-page-end.result.pages ≡ device.geometry.pages = ap (λ (g : Geometry). g.pages) c.geometry-page-end.ensures in
    let end : c.loop-page.page ≡ 8 * device.geometry.pages = omega (arith, same, c.loop-page-test.false, c.loop-page.auto.page-end) in
    subst (λ (n : ℕ). IsNewest device.pages n c.loop-page.newest) end c.loop-page.invariant

pub loop-page-preserved : goal.loop-page-preserved
loop-page-preserved c =
    let pages : ℕ → Page = (device_of c.args.flash.now).pages in
    let n : ℕ = c.loop-page.page in
    let told : c.newer-newest.result ≡ newer c.loop-page.newest (first_page (pages n)) =
    c.newer-newest.ensures ∙ ap (λ (next : Option FirstPage). newer c.loop-page.newest next) (c.first_page.ensures ∙ ap first_page c.page.ensures) in
    subst (λ (next : Option FirstPage). IsNewest pages (n + 1) next) (sym told) (newest_more pages n c.loop-page.newest c.loop-page.invariant)
