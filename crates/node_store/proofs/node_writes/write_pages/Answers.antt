use Rattle.std.proofs.Common.{◌≡◌, ℕ, ◌+◌, ◌-◌, ◌*◌, ◌<◌, ◌++◌, length, take, drop, replicate, vec_len, refl, ap, subst, ◌∙◌, arith}
use Rattle.std.proofs.lemmas.Result.{err_from_is_err_and}
use Rattle.std.proofs.lemmas.List.{take_at, take_rest}
use Rattle.flash_model.specs.declared.geometry.Geometry.{Geometry}
use Rattle.node_store.specs.NodePages.{page_bytes}
use Rattle.nodes.specs.PageCounts.{pages_for}
use Rattle.node_store.specs.WritingLaws.{IsWriting_start, program_next, all_written, program_fails, place_below, counts_once}
use Rattle.node_store.proofs.node_writes.write_pages.Goals as goal
use Rattle.node_store.proofs.node_writes.write_pages.Goals.{After-program}
use Rattle.node_store.specs.Writing.{IsWriting}
use Rattle.node_store.proofs.node_writes.write_pages.Given.{Over}

module _ (g : Over) (c : After-program g) where
  -- the page is one of the block
  below : c.loop-place.place < (g.F.Flash.device c.args.flash.now).geometry.pages
  below =
      place_below (g.F.Flash.device c.args.flash.now).geometry c.geometry-geometry.result c.loop-place.place (length c.args.bytes.now)
      c.geometry-geometry.ensures c.requires.lawful c.requires.fits (rw c.div_ceil-count.ensures at c.loop-place-test.true)

  number : c.page_number.result ≡ c.args.block * (g.F.Flash.device c.args.flash.now).geometry.pages + c.loop-place.place
  number = c.page_number.ensures.value ∙ ap (λ (k : Geometry). c.args.block * k.pages + c.loop-place.place) c.geometry-geometry.ensures

  -- it was filled with its part of the bytes
  filled : c.deref.result.now ≡ page_bytes (g.F.Flash.device c.args.flash.now).geometry.page c.loop-place.place c.args.bytes.now
  filled =
      let page = (g.F.Flash.device c.args.flash.now).geometry.page in
      let long : length c.fill_page.new.page ≡ c.loop-place.page.len = omega (arith, c.fill_page.auto.page, c.deref_mut.ensures.len) in
      c.deref.ensures.value
      ∙ take_at c.fill_page.new.page (drop (length c.fill_page.new.page) c.loop-place.page.items) c.loop-place.page.len long
      ∙ c.fill_page.ensures.filled
      ∙ ap (λ n. take n (take (length c.args.bytes.now - c.loop-place.place * c.geometry-geometry.result.page) (drop (c.loop-place.place * c.geometry-geometry.result.page) c.args.bytes.now) ++ replicate n 0)) c.deref_mut.ensures.len
      ∙ ap (λ rest. take (vec_len c.loop-place.page) (rest ++ replicate (vec_len c.loop-place.page) 0))
      (take_rest c.args.bytes.now (c.loop-place.place * c.geometry-geometry.result.page))
      ∙ ap (λ n. take n (drop (c.loop-place.place * c.geometry-geometry.result.page) c.args.bytes.now ++ replicate n 0))
      (c.loop-place.invariant.page ∙ c.requires.whole)
      ∙ ap (λ (k : Geometry). take page (drop (c.loop-place.place * k.page) c.args.bytes.now ++ replicate page 0)) c.geometry-geometry.ensures

pub loop-place-preserved : goal.loop-place-preserved
loop-place-preserved g c =
    let t = (goal.at.loop-place-preserved g c).After-program in
    record {
      writing = program_next _ _ _ _ _ _ _ _ _ c.loop-place.invariant.writing (below g t) (number g t) (filled g t) c.in_ok-program.ensures;
      page = c.loop-place.invariant.page;
      operations = let one = counts_once (g.F.Flash.device c.loop-place.flash).powered _ _ c.program.ensures.operates.operations in omega (arith, one, c.loop-place.invariant.operations);
    }

pub returns-in_err-program-clause-writes : goal.returns-in_err-program-clause-writes
returns-in_err-program-clause-writes g c =
    let t = (goal.at.returns-in_err-program-clause-writes g c).After-program in
    let p = err_from_is_err_and c.from_residual.result c.from_residual.ensures.1 in
    rw (p.1, p.2) (program_fails _ _ _ _ _ _ _ _ _ c.loop-place.invariant.writing (below g t) (number g t) c.in_err-program.ensures)

pub loop-place-init : goal.loop-place-init
loop-place-init g c = record {
  writing = IsWriting_start (g.F.Flash.device c.args.flash.now) c.args.block c.args.bytes.now c.requires.blank;
  page = refl;
  operations = omega arith;
}

pub returns-clause-writes : goal.returns-clause-writes
returns-clause-writes g c =
    let last : c.loop-place.place ≡ c.div_ceil-count.result = let test = c.loop-place-test.false in let within = c.loop-place.auto.place-end in omega arith in
    let all : c.loop-place.place ≡ pages_for (g.F.Flash.device c.args.flash.now).geometry.page (length c.args.bytes.now) =
    last ∙ c.div_ceil-count.ensures ∙ ap (λ (k : Geometry). pages_for k.page (length c.args.bytes.now)) c.geometry-geometry.ensures in
    all_written (g.F.Flash.device c.args.flash.now) (g.F.Flash.device c.loop-place.flash) c.args.block c.args.bytes.now tt (subst (λ (n : ℕ). IsWriting (g.F.Flash.device c.args.flash.now) c.args.block c.args.bytes.now n (g.F.Flash.device c.loop-place.flash)) all c.loop-place.invariant.writing)
