use Rattle.std.proofs.Common.{◌≡◌, ◌≤◌, ◌+◌, ℕ, Option, List, length, ap, subst, ◌∙◌, arith}
use Rattle.std.specs.Prelude.{IfSome}
use Rattle.std.proofs.lemmas.List.{take_at}
use Rattle.std.proofs.lemmas.Nat.{mul-le}
use Rattle.flash_model.specs.Contents.{PutsPage, page_of}
use Rattle.flash_model.specs.Device.{Page}
use Rattle.flash_model.specs.Geometry.{page_count}
use Rattle.flash_simulation.specs.Simulation.{device_of}
use Rattle.part_file.specs.Layout.{data_place}
use Rattle.part_file.specs.Pages.{HasPage}
use Rattle.part_file.proofs.PagesRead.{HasRead-more, HasRead-all}
use Rattle.part_file.proofs.part_contents.read_part.Goals as goal

pub loop-page-preserved : goal.loop-page-preserved
loop-page-preserved g c =
    let so_far = c.loop-page.invariant in
    let bytes = c.read_page.new.buffer in
    let sizes = c.args.sizes in
    let held = g.B.Backing.held c.args.backing.now in
    let page = page_of c.in_ok-state.state bytes in
    let whole : c.deref.result.now ≡ bytes = c.deref.ensures.value ∙ take_at bytes _ c.loop-page.buffer.len (omega (arith, c.read_page.ensures.len, c.deref_mut.ensures.len)) in
    let here = subst (λ (h : Option (List ℕ)). IfSome h (λ all. HasPage all sizes c.loop-page.page page)) so_far.0 c.in_ok-state.ensures.page in
    let inside = subst (λ (h : Option (List ℕ)). IfSome h (λ all. data_place sizes c.loop-page.page + sizes.page ≤ length all)) so_far.0 c.in_ok-state.ensures.inside in
    let puts = subst (λ (p : Page). PutsPage (device_of c.loop-page.flash) c.loop-page.page p (device_of c.set_page.new.self)) (c.view_of.ensures ∙ ap (page_of c.in_ok-state.state) whole) c.set_page.ensures.page in (
      c.read_page.ensures.same ∙ so_far.0,
      c.read_page.ensures.steps ∙ so_far.1,
      ap (λ (l : List ℕ). length l) (take_at bytes _ c.loop-page.buffer.len (omega (arith, c.read_page.ensures.len, c.deref_mut.ensures.len))) ∙ omega (arith, c.read_page.ensures.len, c.deref_mut.ensures.len, so_far.2, c.loop-page.buffer.ok.0),
      HasRead-more sizes held (device_of c.loop-page.flash) (device_of c.set_page.new.self) c.loop-page.page page so_far.3 here inside puts,
    )

pub returns-clause-pages : goal.returns-clause-pages
returns-clause-pages g c =
    let so_far = c.loop-page.invariant in
    let sizes = c.args.sizes in
    let last : c.loop-page.page ≡ c.page_count-page-end.result = omega (arith, c.loop-page-test.false, c.loop-page.auto.page-end) in
    let end : c.loop-page.page ≡ page_count sizes = last ∙ c.page_count-page-end.ensures in
    let least = mul-le 1 1 sizes.blocks sizes.pages (omega (arith, c.requires.blocks_least)) c.requires.some_pages in
    HasRead-all sizes (g.B.Backing.held c.args.backing.now) (device_of c.loop-page.flash) c.loop-page.page so_far.3 end (omega (arith, end, least))
