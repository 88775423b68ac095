use Rattle.std.proofs.Common.{◌≡◌, ℕ, ◌+◌, ◌*◌, sym, ap, subst, ◌∙◌, arith}
use Rattle.flash_model.specs.Device.{Page}
use Rattle.flash_model.specs.Reading.{OnlyReads_itself, OnlyReads_on, same_pages}
use Rattle.anchors.specs.declared.scan.Scan.{Scan}
use Rattle.anchors.specs.Parts.{parts_on, head_at}
use Rattle.anchors.specs.Reading.{IsEnd}
use Rattle.anchors.specs.Scanning.{scan_next, IsMet}
use Rattle.anchors.proofs.ScanLaws.{met_begins, met_next, met_ends}
use Rattle.anchors.proofs.Ending.{IsEnd_start, IsEnd_blank, IsEnd_data, IsEnd_all}
use Rattle.anchors.proofs.ReadParts.{part_head, reads_on, still_read}
use Rattle.std.proofs.lemmas.Result.{err_from_is_err_and}
use Rattle.anchors.proofs.scan.scan_anchor.Goals as goal
use Rattle.anchors.proofs.scan.scan_anchor.Goals.{then-not-blank, else-not-blank}

pub loop-place-init : goal.loop-place-init
loop-place-init g c =
    let old = g.F.Flash.device c.args.flash.now in
    record {
      only_reads = OnlyReads_itself old;
      operations = omega arith;
      met = met_begins c.args.geometry (parts_on c.args.geometry old.pages) c.args.anchor c.args.best c.requires.best;
      so_far = IsEnd_start c.args.geometry old.pages c.args.anchor;
    }

pub loop-place-preserved : goal.loop-place-preserved
loop-place-preserved g c =
    let old = g.F.Flash.device c.args.flash.now in
    let mid = g.F.Flash.device c.loop-place.flash in
    let size = c.args.geometry in
    let parts = parts_on size old.pages in
    let place = c.loop-place.place in
    let page = c.page_number-page.result in
    let first = c.args.anchor * size.pages in
    let so_far = c.loop-place.invariant in
    let at : page ≡ first + place = c.page_number-page.ensures.value in
    let head : c.in_ok-head.head ≡ head_at parts (first + place) =
    part_head (parts_on size mid.pages) page c.read_page.new.buffer c.in_ok-head.head c.in_ok-head.ensures.part ∙ ap (λ (pages : ℕ → Page). head_at (parts_on size pages) page) (same_pages so_far.only_reads) ∙ ap (head_at parts) at in
    let made : scan_next size c.loop-place.scan (first + place) c.in_ok-head.head ≡ c.next-scan.result = ap (λ p. scan_next size c.loop-place.scan p c.in_ok-head.head) (sym at) ∙ sym c.next-scan.ensures in
    let more : first + place + 1 ≡ first + (place + 1) = omega arith in
    let met = met_next size parts first (first + place) c.loop-place.scan c.in_ok-head.head (omega arith) head so_far.met in
    let here : mid.pages page ≡ old.pages page = so_far.only_reads.pages page in
    record {
      only_reads = OnlyReads_on old mid (g.F.Flash.device c.read_page.new.flash) so_far.only_reads c.in_ok-head.ensures.reads.only_reads;
      operations = let a = so_far.operations in let b = c.in_ok-head.ensures.reads.operations in omega arith;
      met = subst (λ (s : Scan). IsMet size parts first (first + (place + 1)) s.best s.run) made
          (subst (λ n. IsMet size parts first n (scan_next size c.loop-place.scan (first + place) c.in_ok-head.head).best (scan_next size c.loop-place.scan (first + place) c.in_ok-head.head).run) more met);
      so_far = elim c.if-not-blank.branch [
        | then-not-blank w ↦
            subst (IsEnd size old.pages c.args.anchor (place + 1)) (sym w.end-is) (IsEnd_data size old.pages c.args.anchor place page at
            (λ blank. (rw w.if-not-blank.true at c.in_ok-head.ensures.other) (here ∙ blank)))
        | else-not-blank w ↦
            subst (IsEnd size old.pages c.args.anchor (place + 1)) (sym w.end-is) (IsEnd_blank size old.pages c.args.anchor place c.loop-place.end page so_far.so_far at
            (sym here ∙ (rw w.if-not-blank.false at c.in_ok-head.ensures.blank)))
      ];
    }

pub returns-clause-best : goal.returns-clause-best
returns-clause-best g c =
    met_ends c.args.geometry (parts_on c.args.geometry (g.F.Flash.device c.args.flash.now).pages) c.args.anchor c.loop-place.place c.loop-place.scan.best c.loop-place.scan.run c.loop-place.auto.place-end c.loop-place-test.false c.loop-place.invariant.met

pub returns-clause-end : goal.returns-clause-end
returns-clause-end g c = IsEnd_all c.args.geometry (g.F.Flash.device c.args.flash.now).pages c.args.anchor c.loop-place.place c.loop-place.end c.loop-place.auto.place-end c.loop-place-test.false c.loop-place.invariant.so_far

pub returns-clause-reads : goal.returns-clause-reads
returns-clause-reads g c = record {
  only_reads = c.loop-place.invariant.only_reads;
  operations = let h = c.loop-place.invariant.operations in let all = c.loop-place.auto.place-end in omega arith;
  why = tt;
}

pub returns-in_err-head-clause-reads : goal.returns-in_err-head-clause-reads
returns-in_err-head-clause-reads g c =
    let p = err_from_is_err_and c.from_residual.result c.from_residual.ensures.1 in
    let so_far = c.loop-place.invariant in
    rw (p.1, p.2) (reads_on (g.F.Flash.device c.args.flash.now) (g.F.Flash.device c.loop-place.flash) (g.F.Flash.device c.read_page.new.flash) c.loop-place.place 1 c.args.geometry.pages c.in_err-head.field-0.0
    so_far.only_reads so_far.operations c.in_err-head.ensures.reads (let lt = c.loop-place-test.true in omega arith))

pub read_page-requires-clause-may : goal.read_page-requires-clause-may
read_page-requires-clause-may g c = still_read (g.F.Flash.device c.args.flash.now) (g.F.Flash.device c.loop-place.flash) c.args.geometry c.args.buffer.now c.loop-place.buffer c.loop-place.invariant.only_reads c.loop-place.auto.buffer c.requires.may
