use Rattle.std.proofs.Common.{◌≡◌, ℕ, ◌+◌, ◌*◌, ◌<◌, List, length, vec_capacity, Ok, Err, refl, sym, ap, subst, ◌∙◌, arith}
use Rattle.std.proofs.lemmas.Result.{err_from_is_err_and}
use Rattle.flash_model.specs.declared.geometry.Geometry.{Geometry}
use Rattle.flash_model.specs.Geometry.{page_count}
use Rattle.flash_model.specs.Device.{block_of, AfterProgram, bytes_of}
use Rattle.flash_model.specs.Blocks.{block_of-at}
use Rattle.record_format.specs.Pages.{record_page_bytes}
use Rattle.anchors.specs.Parts.{part_of}
use Rattle.anchors.specs.Programming.{bytes_for}
use Rattle.anchors.proofs.Anchoring.{program_touches, Touches_itself, Touches_on}
use Rattle.anchors.proofs.Asking.{one_more, operates_one, tries_end}
use Rattle.anchors.proofs.Places.{anchor_on_flash, below_end}
use Rattle.anchors.proofs.Programmed.{pages_next, pages_end, piece_inside, piece_fits, room_on, failed_none}
use Rattle.anchors.proofs.anchor.program_record.Goals as goal
use Rattle.anchors.proofs.anchor.program_record.Goals.{After-program}
use Rattle.anchors.proofs.anchor.program_record.Given.{Over}

pub program-requires-clause-blank : goal.program-requires-clause-blank
program-requires-clause-blank g c =
    let at : c.page_number.result ≡ c.args.anchor * c.args.geometry.pages + c.args.place + c.loop-n.n = let e = c.page_number.ensures.value in omega arith in
    ap (g.F.Flash.device c.loop-n.flash).pages at ∙ c.loop-n.invariant.blank c.loop-n.n (omega arith) c.loop-n-test.true

module _ (g : Over) (c : After-program g) where
  first : ℕ
  first = c.args.anchor * c.args.geometry.pages + c.args.place

  at : c.page_number.result ≡ c.args.anchor * c.args.geometry.pages + c.args.place + c.loop-n.n
  at = let e = c.page_number.ensures.value in omega arith

  block : block_of (g.F.Flash.device c.loop-n.flash) c.page_number.result ≡ c.args.anchor
  block =
      let mid = g.F.Flash.device c.loop-n.flash in
      let same : mid.geometry ≡ c.args.geometry = c.loop-n.invariant.touches.geometry ∙ c.requires.same in
      let inside : c.args.place + c.loop-n.n < c.args.geometry.pages = let h = c.requires.in_block in let k = c.loop-n-test.true in omega arith in
      let lt : c.args.place + c.loop-n.n < mid.geometry.pages = subst (λ (h : Geometry). c.args.place + c.loop-n.n < h.pages) (sym same) inside in
      ap (block_of mid) (c.page_number.ensures.value ∙ ap (λ (h : Geometry). c.args.anchor * h.pages + (c.args.place + c.loop-n.n)) (sym same)) ∙ block_of-at mid c.args.anchor (c.args.place + c.loop-n.n) lt

  page : c.deref.result.now ≡ bytes_for c.args.geometry c.args.draft.now.sequence c.args.draft.now.payload.now c.args.draft.now.count c.loop-n.n
  page =
      c.deref.ensures.value ∙ c.write_page.ensures.page
      ∙ ap (λ (bytes : List ℕ). record_page_bytes c.args.geometry.page (record { sequence = c.args.draft.now.sequence; index = c.loop-n.n; count = c.args.draft.now.count; used = length bytes }) bytes) c.piece_of-piece.ensures

pub returns-in_err-program-clause-touches : goal.returns-in_err-program-clause-touches
returns-in_err-program-clause-touches g c =
    let t = (goal.at.returns-in_err-program-clause-touches g c).After-program in
    let p = err_from_is_err_and c.from_residual.result c.from_residual.ensures.1 in
    let old = g.F.Flash.device c.args.flash.now in
    let mid = g.F.Flash.device c.loop-n.flash in
    let new = g.F.Flash.device c.program.new.self in
    rw (p.1, p.2) (Touches_on old mid new c.args.anchor tt _ c.loop-n.invariant.touches (program_touches mid new c.args.anchor c.page_number.result c.deref.result.now _ (block g t) c.in_err-program.ensures))

pub returns-in_err-program-clause-programmed : goal.returns-in_err-program-clause-programmed
returns-in_err-program-clause-programmed g c =
    let t = (goal.at.returns-in_err-program-clause-programmed g c).After-program in
    let p = err_from_is_err_and c.from_residual.result c.from_residual.ensures.1 in
    let old = g.F.Flash.device c.args.flash.now in
    let mid = g.F.Flash.device c.loop-n.flash in
    let new = g.F.Flash.device c.program.new.self in
    let n = c.loop-n.n in
    let is = at g t in
    rw (p.1, p.2) (pages_end c.args.geometry old.pages mid.pages new.pages (c.args.anchor * c.args.geometry.pages + c.args.place) c.args.draft.now.sequence c.args.draft.now.payload.now c.args.draft.now.count n c.loop-n.invariant.pages c.loop-n-test.true
    (λ q apart. c.in_err-program.ensures.others q (λ same. apart (same ∙ is))) c.in_err-program.field-0.0 (c.loop-n.invariant.blank n (omega arith) c.loop-n-test.true)
    (subst (λ q. AfterProgram (mid.pages q) (bytes_for c.args.geometry c.args.draft.now.sequence c.args.draft.now.payload.now c.args.draft.now.count n) (new.pages q) (Err c.in_err-program.field-0.0)) is (subst (λ (bytes : List ℕ). AfterProgram (mid.pages c.page_number.result) bytes (new.pages c.page_number.result) (Err c.in_err-program.field-0.0)) (page g t) c.in_err-program.ensures.page)))

pub returns-in_err-program-clause-tries : goal.returns-in_err-program-clause-tries
returns-in_err-program-clause-tries g c =
    let p = err_from_is_err_and c.from_residual.result c.from_residual.ensures.1 in
    let so_far = c.loop-n.invariant in
    rw (p.1, p.2) (tries_end (g.F.Flash.device c.args.flash.now) (g.F.Flash.device c.loop-n.flash) (g.F.Flash.device c.program.new.self) c.loop-n.n c.args.draft.now.count c.in_err-program.field-0.0
    (let h = so_far.touches.failures in omega arith) so_far.operations c.loop-n-test.true c.in_err-program.ensures.operates)

pub loop-n-preserved : goal.loop-n-preserved
loop-n-preserved g c =
    let t = (goal.at.loop-n-preserved g c).After-program in
    let old = g.F.Flash.device c.args.flash.now in
    let mid = g.F.Flash.device c.loop-n.flash in
    let new = g.F.Flash.device c.program.new.self in
    let n = c.loop-n.n in
    let is = at g t in
    let done = c.in_ok-program.ensures in
    record {
      touches = Touches_on old mid new c.args.anchor tt (Ok tt) c.loop-n.invariant.touches (program_touches mid new c.args.anchor c.page_number.result c.deref.result.now (Ok tt) (block g t) done);
      operations = let one = one_more mid new (Ok tt) 0 0 done.operates refl in let h = c.loop-n.invariant.operations in omega arith;
      pages = pages_next c.args.geometry old.pages mid.pages new.pages (c.args.anchor * c.args.geometry.pages + c.args.place) c.args.draft.now.sequence c.args.draft.now.payload.now c.args.draft.now.count n c.loop-n.invariant.pages c.loop-n-test.true
          (λ q apart. done.others q (λ same. apart (same ∙ is))) (ap new.pages (sym is) ∙ done.page ∙ ap bytes_of (page g t));
      blank = λ m from below. done.others _ (λ same. absurd (let e = is in omega arith)) ∙ c.loop-n.invariant.blank m (omega arith) below;
      room = let a = c.loop-n.invariant.room in let b = c.write_page.ensures.capacity in omega arith;
    }

pub loop-n-init : goal.loop-n-init
loop-n-init g c = record {
  touches = Touches_itself (g.F.Flash.device c.args.flash.now) c.args.anchor tt;
  operations = omega arith;
  pages = record {
    others = λ q past. refl;
    done = λ m lt. absurd (omega arith);
    rest = λ m from below. ap part_of (c.requires.blank m below);
  };
  blank = λ m from below. c.requires.blank m below;
  room = c.requires.room;
}

pub returns-clause-programmed : goal.returns-clause-programmed
returns-clause-programmed g c =
    let all : c.loop-n.n ≡ c.args.draft.now.count = let test = c.loop-n-test.false in let within = c.loop-n.auto.n-end in omega arith in
    (c.loop-n.n, all, c.loop-n.invariant.pages)

pub returns-clause-touches : goal.returns-clause-touches
returns-clause-touches g c = c.loop-n.invariant.touches

pub piece_of-piece-requires-clause-lawful : goal.piece_of-piece-requires-clause-lawful
piece_of-piece-requires-clause-lawful g c = c.requires.is.lawful

pub piece_of-piece-requires-clause-inside : goal.piece_of-piece-requires-clause-inside
piece_of-piece-requires-clause-inside g c = piece_inside c.args.geometry c.args.draft.now.payload.now c.args.draft.now.count c.loop-n.n c.requires.is.fills c.loop-n-test.true

pub write_page-requires-clause-fits : goal.write_page-requires-clause-fits
write_page-requires-clause-fits g c = piece_fits c.args.geometry c.args.draft.now.payload.now c.loop-n.n c.piece_of-piece.result.now c.requires.is.lawful c.piece_of-piece.ensures

pub write_page-requires-clause-room : goal.write_page-requires-clause-room
write_page-requires-clause-room g c = c.loop-n.invariant.room

pub page_number-requires-clause-in_flash : goal.page_number-requires-clause-in_flash
page_number-requires-clause-in_flash g c = anchor_on_flash c.args.geometry c.args.anchor c.requires.is.lawful c.requires.anchor

pub page_number-requires-clause-in_block : goal.page_number-requires-clause-in_block
page_number-requires-clause-in_block g c = below_end c.args.place c.loop-n.n c.args.draft.now.count c.args.geometry.pages c.requires.in_block c.loop-n-test.true

pub program-requires-clause-in_range : goal.program-requires-clause-in_range
program-requires-clause-in_range g c =
    let same = c.loop-n.invariant.touches.geometry ∙ c.requires.same in
    subst (λ (h : Geometry). c.page_number.result < page_count h) (sym same) c.page_number.ensures.in_range

pub program-requires-clause-whole : goal.program-requires-clause-whole
program-requires-clause-whole g c =
    let same = c.loop-n.invariant.touches.geometry ∙ c.requires.same in
    c.deref.ensures.len ∙ c.write_page.ensures.len ∙ ap (λ (h : Geometry). h.page) (sym same)

pub returns-in_err-program-clause-room : goal.returns-in_err-program-clause-room
returns-in_err-program-clause-room g c = room_on c.args.geometry.page (vec_capacity c.loop-n.page) (vec_capacity c.write_page.new.out) c.loop-n.invariant.room c.write_page.ensures.capacity

pub returns-clause-room : goal.returns-clause-room
returns-clause-room g c = c.loop-n.invariant.room

pub returns-clause-tries : goal.returns-clause-tries
returns-clause-tries g c =
    let all : c.loop-n.n ≡ c.args.draft.now.count = let test = c.loop-n-test.false in let within = c.loop-n.auto.n-end in omega arith in
    (failed_none _ _ c.loop-n.invariant.touches.failures, c.loop-n.invariant.operations ∙ ap (λ n. (g.F.Flash.device c.args.flash.now).operations + n) all)

pub returns-in_err-program-clause-operations : goal.returns-in_err-program-clause-operations
returns-in_err-program-clause-operations g c =
    let one = operates_one (g.F.Flash.device c.loop-n.flash) (g.F.Flash.device c.program.new.self) _ _ _ c.in_err-program.ensures.operates in
    let h = c.loop-n.invariant.operations in
    let lt = c.loop-n-test.true in
    omega (arith, one, h, lt)

pub returns-clause-operations : goal.returns-clause-operations
returns-clause-operations g c =
    let within = c.loop-n.auto.n-end in
    let h = c.loop-n.invariant.operations in
    omega (arith, within, h)
