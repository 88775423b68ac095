use Rattle.std.proofs.Common.{◌≡◌, ◌+◌, ◌*◌, ℕ, ap, subst, ◌∙◌, arith}
use Rattle.std.proofs.lemmas.Nat.{mod_below}
use Rattle.flash_model.specs.declared.geometry.Geometry.{Geometry}
use Rattle.flash_model.specs.Contents.{PutsPage, shown_page}
use Rattle.flash_simulation.specs.Simulation.{device_of}
use Rattle.mirrored_flash.proofs.Shown.{SetsBelow, SetsBelow-more, SetsBelow-own}
use Rattle.mirrored_flash.proofs.shown_pages.set_pages.Goals as goal

pub loop-place-preserved : goal.loop-place-preserved
loop-place-preserved c =
    let old = device_of c.args.shown.now in
    let sizes : c.geometry-sizes.result.pages ≡ old.geometry.pages = ap (λ (g : Geometry). g.pages) c.geometry-sizes.ensures in
    let number : c.page_number.result ≡ c.args.block * old.geometry.pages + c.loop-place.place =
    c.page_number.ensures.value ∙ ap (λ (k : ℕ). c.args.block * k + c.loop-place.place) sizes in
    SetsBelow-more old c.args.block c.loop-place.place (shown_page c.args.page) (device_of c.loop-place.shown) (device_of c.set_page.new.self)
    (omega (arith, sizes, c.loop-place-test.true)) c.loop-place.invariant
    (subst (λ n. PutsPage (device_of c.loop-place.shown) n (shown_page c.args.page) (device_of c.set_page.new.self)) number c.set_page.ensures.page)

pub returns-clause-own : goal.returns-clause-own
returns-clause-own c = λ p here.
    let old = device_of c.args.shown.now in
    let sizes : c.geometry-sizes.result.pages ≡ old.geometry.pages = ap (λ (g : Geometry). g.pages) c.geometry-sizes.ensures in
    let end : c.loop-place.place ≡ old.geometry.pages = omega (arith, sizes, c.loop-place-test.false, c.loop-place.auto.place-end) in
    SetsBelow-own old c.args.block (shown_page c.args.page) (device_of c.loop-place.shown)
    (subst (λ n. SetsBelow old c.args.block n (shown_page c.args.page) (device_of c.loop-place.shown)) end c.loop-place.invariant)
    p (mod_below p old.geometry.pages (omega (arith, c.args.shown.now.lawful.some_pages))) here
