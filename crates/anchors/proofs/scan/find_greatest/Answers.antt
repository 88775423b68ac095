use Rattle.std.proofs.Common.{◌≡◌, ◌≤◌, ℕ, ◌+◌, ◌*◌, refl, sym, ap, subst, ◌∙◌, arith}
use Rattle.std.proofs.lemmas.Result.{err_from_is_err_and}
use Rattle.fs_types.specs.declared.limits.TheConstants.{ANCHORS}
use Rattle.flash_model.specs.Device.{Page}
use Rattle.flash_model.specs.Reading.{OnlyReads_itself, OnlyReads_on, same_pages}
use Rattle.anchors.specs.Parts.{parts_on, best_below, sequence_of}
use Rattle.anchors.specs.declared.best.Best.{Best}
use Rattle.anchors.proofs.ReadParts.{erased_read, best_none, reads_on, one_more_anchor, still_read}
use Rattle.anchors.proofs.scan.find_greatest.Goals as goal

pub loop-anchor-init : goal.loop-anchor-init
loop-anchor-init g c =
    let parts = parts_on c.args.geometry (g.F.Flash.device c.args.flash.now).pages in
    record {
      only_reads = OnlyReads_itself (g.F.Flash.device c.args.flash.now);
      operations = omega arith;
      quiet = λ good. refl;
      best = best_none c.args.geometry parts ∙ ap (best_below c.args.geometry parts) (let e : 0 ≡ 0 * c.args.geometry.pages = omega arith in e);
    }

pub loop-anchor-preserved : goal.loop-anchor-preserved
loop-anchor-preserved g c =
    let old = g.F.Flash.device c.args.flash.now in
    let mid = g.F.Flash.device c.loop-anchor.flash in
    let size = c.args.geometry in
    let anchor = c.loop-anchor.anchor in
    let so_far = c.loop-anchor.invariant in
    let one = c.in_ok-best.ensures in
    record {
      only_reads = OnlyReads_on old mid (g.F.Flash.device c.scan_left.new.flash) so_far.only_reads one.reads.only_reads;
      operations = let a = so_far.operations in let b = one.reads.operations in let sum : (anchor + 1) * size.pages ≡ anchor * size.pages + size.pages = omega arith in omega arith;
      quiet = λ good. one.quiet (good anchor c.loop-anchor-test.true) ∙ so_far.quiet good;
      best = one.best ∙ ap (λ (pages : ℕ → Page). best_below size (parts_on size pages) ((anchor + 1) * size.pages)) (same_pages so_far.only_reads);
    }

pub scan_left-requires-clause-erased : goal.scan_left-requires-clause-erased
scan_left-requires-clause-erased g c =
    erased_read (g.F.Flash.device c.args.flash.now) (g.F.Flash.device c.loop-anchor.flash) c.args.bad.now ANCHORS c.loop-anchor.invariant.only_reads c.requires.erased

pub scan_left-requires-clause-best : goal.scan_left-requires-clause-best
scan_left-requires-clause-best g c =
    c.loop-anchor.invariant.best ∙ ap (λ (pages : ℕ → Page). best_below c.args.geometry (parts_on c.args.geometry pages) (c.loop-anchor.anchor * c.args.geometry.pages)) (sym (same_pages c.loop-anchor.invariant.only_reads))

pub returns-in_err-best-clause-quiet : goal.returns-in_err-best-clause-quiet
returns-in_err-best-clause-quiet g c = λ good. c.in_err-best.ensures.quiet (good c.loop-anchor.anchor c.loop-anchor-test.true) ∙ c.loop-anchor.invariant.quiet good

pub returns-in_err-best-clause-reads : goal.returns-in_err-best-clause-reads
returns-in_err-best-clause-reads g c =
    let p = err_from_is_err_and c.from_residual.result c.from_residual.ensures.1 in
    let so_far = c.loop-anchor.invariant in
    rw (p.1, p.2) (reads_on (g.F.Flash.device c.args.flash.now) (g.F.Flash.device c.loop-anchor.flash) (g.F.Flash.device c.scan_left.new.flash) (c.loop-anchor.anchor * c.args.geometry.pages) c.args.geometry.pages (ANCHORS * c.args.geometry.pages) c.in_err-best.field-0.0
    so_far.only_reads so_far.operations c.in_err-best.ensures.reads (one_more_anchor c.loop-anchor.anchor c.args.geometry.pages c.loop-anchor-test.true))

pub returns-clause-greatest : goal.returns-clause-greatest
returns-clause-greatest g c =
    let all : c.loop-anchor.anchor ≡ ANCHORS = let end = c.loop-anchor-test.false in let within = c.loop-anchor.auto.anchor-end in omega arith in
    c.sequence.ensures
    ∙ ap (λ (best : Best). sequence_of best.found) (c.loop-anchor.invariant.best ∙ ap (λ (n : ℕ). best_below c.args.geometry (parts_on c.args.geometry (g.F.Flash.device c.args.flash.now).pages) (n * c.args.geometry.pages)) all)

pub returns-clause-reads : goal.returns-clause-reads
returns-clause-reads g c = record {
  only_reads = c.loop-anchor.invariant.only_reads;
  operations =
      let all : c.loop-anchor.anchor ≡ ANCHORS = let end = c.loop-anchor-test.false in let within = c.loop-anchor.auto.anchor-end in omega arith in
      subst (λ (n : ℕ). (g.F.Flash.device c.loop-anchor.flash).operations ≤ (g.F.Flash.device c.args.flash.now).operations + n * c.args.geometry.pages) all c.loop-anchor.invariant.operations;
  why = tt;
}

pub returns-clause-quiet : goal.returns-clause-quiet
returns-clause-quiet g c = c.loop-anchor.invariant.quiet

pub scan_left-requires-clause-may : goal.scan_left-requires-clause-may
scan_left-requires-clause-may g c = still_read (g.F.Flash.device c.args.flash.now) (g.F.Flash.device c.loop-anchor.flash) c.args.geometry c.args.buffer.now c.loop-anchor.buffer c.loop-anchor.invariant.only_reads c.loop-anchor.auto.buffer c.requires.may
