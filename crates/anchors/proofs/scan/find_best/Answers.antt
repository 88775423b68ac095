use Rattle.std.proofs.Common.{◌≡◌, ℕ, ◌+◌, ◌*◌, ◌≤◌, sym, ap, subst, ◌∙◌, arith}
use Rattle.std.specs.Prelude.{◌/◌}
use Rattle.flash_model.specs.Device.{Page}
use Rattle.flash_model.specs.Reading.{OnlyReads_itself, OnlyReads_on, same_pages}
use Rattle.anchors.specs.Parts.{parts_on, best_below}
use Rattle.anchors.specs.Reading.{IsEnd}
use Rattle.anchors.proofs.ReadParts.{best_none, reads_on, one_more_anchor, still_read}
use Rattle.std.proofs.lemmas.Result.{err_from_is_err_and}
use Rattle.fs_types.specs.declared.limits.TheConstants.{ANCHORS}
use Rattle.anchors.proofs.ScanLaws.{found_before}
use Rattle.anchors.proofs.scan.find_best.Goals as goal
use Rattle.anchors.proofs.scan.find_best.Goals.{then-is_on, else-is_on}

pub loop-anchor-init : goal.loop-anchor-init
loop-anchor-init g c =
    let old = g.F.Flash.device c.args.flash.now in
    record {
      only_reads = OnlyReads_itself old;
      operations = omega arith;
      best = best_none c.args.geometry (parts_on c.args.geometry old.pages) ∙ ap (best_below c.args.geometry (parts_on c.args.geometry old.pages)) (let e : 0 ≡ 0 * c.args.geometry.pages = omega arith in e);
      end = λ found at. absurd (let e = at in cc);
    }

pub loop-anchor-preserved : goal.loop-anchor-preserved
loop-anchor-preserved g c =
    let old = g.F.Flash.device c.args.flash.now in
    let mid = g.F.Flash.device c.loop-anchor.flash in
    let size = c.args.geometry in
    let parts = parts_on size old.pages in
    let anchor = c.loop-anchor.anchor in
    let so_far = c.loop-anchor.invariant in
    let now : c.in_ok-next.next ≡ best_below size parts ((anchor + 1) * size.pages) =
    c.in_ok-next.ensures.best ∙ ap (λ (pages : ℕ → Page). best_below size (parts_on size pages) ((anchor + 1) * size.pages)) (same_pages so_far.only_reads) in
    record {
      only_reads = OnlyReads_on old mid (g.F.Flash.device c.scan_anchor.new.flash) so_far.only_reads c.in_ok-next.ensures.reads.only_reads;
      operations = let a = so_far.operations in let b = c.in_ok-next.ensures.reads.operations in let sum : (anchor + 1) * size.pages ≡ anchor * size.pages + size.pages = omega arith in omega arith;
      best = now;
      end = λ found at. elim c.if-is_on.branch [
        | then-is_on w ↦
            let block : found.page / size.pages ≡ anchor = (rw w.if-is_on.true at c.is_on.ensures.on) found at in
            subst (IsEnd size old.pages (found.page / size.pages) size.pages) (sym w.end-is) (subst (λ b. IsEnd size old.pages b size.pages c.in_ok-next.anchor_end) (sym block)
            (subst (λ (pages : ℕ → Page). IsEnd size pages anchor size.pages c.in_ok-next.anchor_end) (same_pages so_far.only_reads) c.in_ok-next.ensures.end))
        | else-is_on w ↦
            subst (IsEnd size old.pages (found.page / size.pages) size.pages) (sym w.end-is) (so_far.end found (found_before size parts anchor c.loop-anchor.best c.in_ok-next.next found so_far.best now at ((rw w.if-is_on.false at c.is_on.ensures.apart) found at)))
      ];
    }

pub returns-in_err-next-clause-reads : goal.returns-in_err-next-clause-reads
returns-in_err-next-clause-reads g c =
    let p = err_from_is_err_and c.from_residual.result c.from_residual.ensures.1 in
    let so_far = c.loop-anchor.invariant in
    rw (p.1, p.2) (reads_on (g.F.Flash.device c.args.flash.now) (g.F.Flash.device c.loop-anchor.flash) (g.F.Flash.device c.scan_anchor.new.flash) (c.loop-anchor.anchor * c.args.geometry.pages) c.args.geometry.pages (ANCHORS * c.args.geometry.pages) c.in_err-next.field-0.0
    so_far.only_reads so_far.operations c.in_err-next.ensures.reads (one_more_anchor c.loop-anchor.anchor c.args.geometry.pages c.loop-anchor-test.true))

pub returns-clause-reads : goal.returns-clause-reads
returns-clause-reads g c = record {
  only_reads = c.loop-anchor.invariant.only_reads;
  operations =
      let all : c.loop-anchor.anchor ≡ ANCHORS = let end = c.loop-anchor-test.false in let within = c.loop-anchor.auto.anchor-end in omega arith in
      subst (λ (n : ℕ). (g.F.Flash.device c.loop-anchor.flash).operations ≤ (g.F.Flash.device c.args.flash.now).operations + n * c.args.geometry.pages) all c.loop-anchor.invariant.operations;
  why = tt;
}

pub scan_anchor-requires-clause-may : goal.scan_anchor-requires-clause-may
scan_anchor-requires-clause-may g c = still_read (g.F.Flash.device c.args.flash.now) (g.F.Flash.device c.loop-anchor.flash) c.args.geometry c.args.buffer.now c.loop-anchor.buffer c.loop-anchor.invariant.only_reads c.loop-anchor.auto.buffer c.requires.may
