use Rattle.std.proofs.Common.{◌≡◌, ℕ, ◌+◌, List, length, refl, sym, ap, ◌∙◌, arith}
use Rattle.flash_model.specs.declared.geometry.Geometry.{Geometry}
use Rattle.flash_model.specs.Device.{Device, bytes_of}
use Rattle.flash_simulation.specs.Simulation.{device_of}
use Rattle.record_format.specs.Pages.{record_page_bytes}
use Rattle.anchors.specs.Parts.{part_of}
use Rattle.anchors.specs.Programming.{bytes_for}
use Rattle.anchors.proofs.Programmed.{pages_next}
use Rattle.salvages.proofs.FirstPages.{first_on_anchor}
use Rattle.salvages.proofs.record_pages.put_pages.Goals as goal

pub loop-n-init : goal.loop-n-init
loop-n-init c =
    let d = device_of c.args.flash.now in
    record {
      pages = record {
        others = λ q past. refl;
        done = λ m lt. absurd (omega arith);
        rest = λ m from below. ap part_of (c.requires.erased (0 + m) (first_on_anchor d.geometry (0 + m) c.args.flash.now.lawful (let fits = c.requires.fits in omega arith)));
      };
      only = refl;
      plan = refl;
      room = let same : c.geometry-geometry.result.page ≡ d.geometry.page = ap (λ (s : Geometry). s.page) c.geometry-geometry.ensures in let room = c.requires.room in omega arith;
    }

pub loop-n-preserved : goal.loop-n-preserved
loop-n-preserved c =
    let old = device_of c.args.flash.now in
    let mid = device_of c.loop-n.flash in
    let new = device_of c.set_page.new.self in
    let so_far = c.loop-n.invariant in
    let puts = c.set_page.ensures.page in
    let n = c.loop-n.n in
    let at : n ≡ 0 + n = omega arith in
    let page : c.deref.result.now ≡ bytes_for old.geometry c.args.sequence c.args.payload.now c.args.count n =
    c.deref.ensures.value ∙ c.write_page.ensures.page
    ∙ ap (λ (bytes : List ℕ). record_page_bytes c.geometry-geometry.result.page (record { sequence = c.args.sequence; index = n; count = c.args.count; used = length bytes }) bytes) c.piece_of-piece.ensures
    ∙ ap (λ (s : Geometry). bytes_for s c.args.sequence c.args.payload.now c.args.count n) c.geometry-geometry.ensures in
    record {
      pages = pages_next old.geometry old.pages mid.pages new.pages 0 c.args.sequence c.args.payload.now c.args.count n so_far.pages c.loop-n-test.true
          (λ q apart. puts.others q (λ same. apart (same ∙ at))) (ap new.pages (sym at) ∙ puts.own ∙ ap bytes_of page);
      only = puts.rest ∙ ap (λ (x : Device). record x { pages = new.pages }) so_far.only;
      plan = c.set_page.ensures.plan ∙ so_far.plan;
      room = let a = so_far.room in let b = c.write_page.ensures.capacity in omega arith;
    }
