use Rattle.std.proofs.Common.{◌≡◌, ◌<◌, ◌+◌, ℕ, List, length, refl, sym, ap, subst, ◌∙◌, arith}
use Rattle.flash_model.specs.declared.geometry.Geometry.{Geometry}
use Rattle.flash_model.specs.Contents.{IsWhole, shown_page}
use Rattle.flash_model.specs.Device.{Page}
use Rattle.flash_model.specs.Geometry.{page_count}
use Rattle.flash_simulation.specs.Simulation.{device_of}
use Rattle.part_file.specs.Pages.{IsPart, page_put}
use Rattle.part_file.proofs.BlankParts.{blank_is}
use Rattle.part_file.proofs.Putting.{first_pages, first_above, first_more, put_length, whole_page}
use Rattle.part_file.proofs.spelling.put_pages.Goals as goal

pub loop-page-init : goal.loop-page-init
loop-page-init c =
    let d = device_of c.args.flash.now in (
      subst (λ (l : List ℕ). IsPart (first_pages d 0) l) (sym c.requires) (blank_is d.geometry (first_pages d 0) c.args.flash.now.lawful refl (λ p. first_above d 0 p (omega arith))),
      refl,
    )

pub put_page-requires-clause-whole : goal.put_page-requires-clause-whole
put_page-requires-clause-whole c =
    let d = device_of c.args.flash.now in
    subst (λ (s : Geometry). IsWhole s.page (shown_page c.page.result)) (sym c.geometry-sizes.ensures)
    (subst (IsWhole d.geometry.page) (sym c.page.ensures) (whole_page c.args.flash.now c.loop-page.page))

pub loop-page-preserved : goal.loop-page-preserved
loop-page-preserved c =
    let d = device_of c.args.flash.now in
    let n = c.loop-page.page in
    let bytes = c.loop-page.bytes in
    let inside : n < page_count d.geometry = subst (λ (k : ℕ). n < k) (c.page_count-page-end.ensures ∙ ap page_count c.geometry-sizes.ensures) c.loop-page-test.true in
    let whole = whole_page c.args.flash.now n in
    let made : c.put_page.new.bytes ≡ page_put d.geometry n (d.pages n) bytes =
    c.put_page.ensures ∙ ap (λ (s : Geometry). page_put s n (shown_page c.page.result) bytes) c.geometry-sizes.ensures ∙ ap (λ (page : Page). page_put d.geometry n page bytes) c.page.ensures in (
      subst (IsPart (first_pages d (n + 1))) (sym made) (first_more d n bytes inside whole c.loop-page.invariant.0),
      ap (λ (l : List ℕ). length l) made ∙ put_length d.geometry n (d.pages n) bytes inside whole c.loop-page.invariant.0.content.whole ∙ c.loop-page.invariant.1,
    )
