use Rattle.std.proofs.Common.{◌≡◌, ◌+◌, ◌∙◌, Err, refl, sym, ap, arith, rules}
use Rattle.std.proofs.lemmas.Bool.{both_ways}
use Rattle.std.proofs.lemmas.Result.{err_from_is_err_and}
use Rattle.fs_types.specs.declared.fault.Fault.TheVariants.{Overflow}
use Rattle.flash_model.specs.declared.geometry.Geometry.{Geometry}
use Rattle.flash_model.specs.Reading.{same_pages}
use Rattle.bad_blocks.specs.Mode.{is_read_only}
use Rattle.anchors.specs.Parts.{greatest_on}
use Rattle.anchors.proofs.Anchoring.{OnlyAnchors_on, OnlyAnchors_itself}
use Rattle.anchors.proofs.Asking.{placed_after, tried_none, tried_after}
use Rattle.anchors.proofs.Beginning.{above_all, reads_only_anchors, reads_untouched, reads_may_commit, may_commit_then, reads_keep, reads_commit, try_commit_cause, if_err_each}
use Rattle.anchors.proofs.Following.{Commits_on, in_vain_on, in_vain_untouched, suits_still}
use Rattle.anchors.proofs.Sparing.{Keeps_itself}
use Rattle.anchors.proofs.anchors.Anchors.commit.Goals as goal

-- ---- in read-only mode

pub returns-then-is_read_only-clause-commits : goal.returns-then-is_read_only-clause-commits
returns-then-is_read_only-clause-commits g c = Keeps_itself c.args.saved.now.geometry (g.F.Flash.device c.args.flash.now).pages

pub returns-then-is_read_only-clause-tries : goal.returns-then-is_read_only-clause-tries
returns-then-is_read_only-clause-tries g c = tried_none (g.F.Flash.device c.args.flash.now) c.args.bad.now c.args.self.now

pub returns-then-is_read_only-clause-only_anchors : goal.returns-then-is_read_only-clause-only_anchors
returns-then-is_read_only-clause-only_anchors g c = OnlyAnchors_itself (g.F.Flash.device c.args.flash.now) c.args.bad.now

pub returns-then-is_read_only-clause-untouched : goal.returns-then-is_read_only-clause-untouched
returns-then-is_read_only-clause-untouched g c = λ other p good. refl

pub returns-then-is_read_only-clause-ready : goal.returns-then-is_read_only-clause-ready
returns-then-is_read_only-clause-ready g c = λ other. c.requires.ready

pub returns-then-is_read_only-clause-at_once : goal.returns-then-is_read_only-clause-at_once
returns-then-is_read_only-clause-at_once g c = λ full. (refl, refl, refl)

pub returns-then-is_read_only-clause-last : goal.returns-then-is_read_only-clause-last
returns-then-is_read_only-clause-last g c = λ all. record {
  refused = refl;
  pages = refl;
  list = refl;
  known = λ some good. absurd (both_ways (is_read_only c.args.bad.now) good (sym c.is_read_only.ensures ∙ c.if-is_read_only.true));
}

pub returns-then-is_read_only-clause-why : goal.returns-then-is_read_only-clause-why
returns-then-is_read_only-clause-why g c = sym c.is_read_only.ensures ∙ c.if-is_read_only.true

-- ---- where no sequence is left, or a read failed

pub returns-in_err-next-clause-commits : goal.returns-in_err-next-clause-commits
returns-in_err-next-clause-commits g c =
    let p = err_from_is_err_and c.from_residual.result c.from_residual.ensures.1 in
    let old = g.F.Flash.device c.args.flash.now in
    rw p.1 (reads_commit old (g.F.Flash.device c.next_sequence.new.flash) c.args.saved.now (greatest_on c.args.saved.now.geometry old.pages + 1) c.args.bad.now p.0 c.in_err-next.ensures.only_reads)

pub returns-in_err-next-clause-placed : goal.returns-in_err-next-clause-placed
returns-in_err-next-clause-placed g c = rw (err_from_is_err_and c.from_residual.result c.from_residual.ensures.1).1 tt

pub returns-in_err-next-clause-tries : goal.returns-in_err-next-clause-tries
returns-in_err-next-clause-tries g c =
    let mid = g.F.Flash.device c.next_sequence.new.flash in
    let reads = c.in_err-next.ensures in
    tried_after (g.F.Flash.device c.args.flash.now) mid mid c.args.bad.now c.args.self.now c.args.saved.now.geometry.pages reads.only_reads (ap (λ (h : Geometry). h.pages) (sym c.requires.suits.same)) reads.quiet reads.operations (omega arith)

pub returns-in_err-next-clause-only_anchors : goal.returns-in_err-next-clause-only_anchors
returns-in_err-next-clause-only_anchors g c = reads_only_anchors (g.F.Flash.device c.args.flash.now) (g.F.Flash.device c.next_sequence.new.flash) c.args.bad.now c.in_err-next.ensures.only_reads

pub returns-in_err-next-clause-untouched : goal.returns-in_err-next-clause-untouched
returns-in_err-next-clause-untouched g c =
    if_err_each c.from_residual.result _ (λ fault other. reads_untouched (g.F.Flash.device c.args.flash.now) (g.F.Flash.device c.next_sequence.new.flash) c.args.bad.now c.in_err-next.ensures.only_reads)

pub returns-in_err-next-clause-remembers : goal.returns-in_err-next-clause-remembers
returns-in_err-next-clause-remembers g c = rw (err_from_is_err_and c.from_residual.result c.from_residual.ensures.1).1 refl

pub returns-in_err-next-clause-ready : goal.returns-in_err-next-clause-ready
returns-in_err-next-clause-ready g c = λ on. reads_may_commit (g.F.Flash.device c.args.flash.now) (g.F.Flash.device c.next_sequence.new.flash) c.args.bad.now c.args.self.now c.in_err-next.ensures.only_reads c.requires.ready

pub returns-in_err-next-clause-at_once : goal.returns-in_err-next-clause-at_once
returns-in_err-next-clause-at_once g c = λ full. absurd (both_ways (is_read_only c.args.bad.now) (sym c.is_read_only.ensures ∙ c.if-is_read_only.false) full)

pub returns-in_err-next-clause-last : goal.returns-in_err-next-clause-last
returns-in_err-next-clause-last g c = λ all. record {
  refused = c.from_residual.ensures.0;
  pages = same_pages c.in_err-next.ensures.only_reads;
  list = refl;
  known = λ some good.
      let p = err_from_is_err_and c.from_residual.result c.from_residual.ensures.1 in
      let last = c.in_err-next.ensures.last some all in
      let full : c.in_err-next.field-0.0 ≡ Overflow = (let same = last.0 in cc) in
      (p.1 ∙ ap (λ f. Err f) (p.2 ∙ full), last.1);
}

pub returns-in_err-next-clause-why : goal.returns-in_err-next-clause-why
returns-in_err-next-clause-why g c =
    let p = err_from_is_err_and c.from_residual.result c.from_residual.ensures.1 in
    rw (p.1, p.2) c.in_err-next.ensures.why

-- ---- the commit

pub commit_as-requires-clause-ready : goal.commit_as-requires-clause-ready
commit_as-requires-clause-ready g c =
    let old = g.F.Flash.device c.args.flash.now in
    let mid = g.F.Flash.device c.next_sequence.new.flash in
    let next = c.in_ok-next.ensures in
    record {
      suits = suits_still old mid c.args.bad.now c.args.bad.now c.args.saved.now (reads_only_anchors old mid c.args.bad.now next.only_reads) c.requires.suits;
      older = rw next.next (above_all c.args.saved.now.geometry old.pages mid.pages (greatest_on c.args.saved.now.geometry old.pages) (same_pages next.only_reads) refl);
      room = next.room;
    }

pub commit_as-requires-clause-may : goal.commit_as-requires-clause-may
commit_as-requires-clause-may g c = reads_may_commit (g.F.Flash.device c.args.flash.now) (g.F.Flash.device c.next_sequence.new.flash) c.args.bad.now c.args.self.now c.in_ok-next.ensures.only_reads c.requires.ready

pub commit_as-requires-clause-open : goal.commit_as-requires-clause-open
commit_as-requires-clause-open g c = sym c.is_read_only.ensures ∙ c.if-is_read_only.false

pub returns-clause-commits : goal.returns-clause-commits
returns-clause-commits g c =
    let next = c.in_ok-next.ensures in
    let old = g.F.Flash.device c.args.flash.now in
    let mid = g.F.Flash.device c.next_sequence.new.flash in
    let all = rw next.next at (Commits_on old.pages mid.pages (g.F.Flash.device c.commit_as.new.commit.flash.now).pages c.args.saved.now c.in_ok-next.next.0 c.commit_as.new.commit.bad.now c.commit_as.result
    (reads_keep c.args.saved.now.geometry _ _ (same_pages next.only_reads)) c.commit_as.ensures.leaves.commits) in
    search rules

pub returns-clause-placed : goal.returns-clause-placed
returns-clause-placed g c =
    let next = c.in_ok-next.ensures in
    placed_after (g.F.Flash.device c.args.flash.now) (g.F.Flash.device c.next_sequence.new.flash) (g.F.Flash.device c.commit_as.new.commit.flash.now) _ c.args.bad.now c.commit_as.new.commit.bad.now _ c.args.self.now c.args.saved.now c.commit_as.result
    (search rules) (search rules) next.only_reads next.quiet next.operations c.commit_as.ensures.placed

pub returns-clause-tries : goal.returns-clause-tries
returns-clause-tries g c =
    let next = c.in_ok-next.ensures in
    let all = tried_after (g.F.Flash.device c.args.flash.now) (g.F.Flash.device c.next_sequence.new.flash) (g.F.Flash.device c.commit_as.new.commit.flash.now) c.args.bad.now c.args.self.now c.args.saved.now.geometry.pages next.only_reads
    (ap (λ (h : Geometry). h.pages) (sym c.requires.suits.same)) next.quiet next.operations c.commit_as.ensures.leaves.operations in
    search rules

pub returns-clause-only_anchors : goal.returns-clause-only_anchors
returns-clause-only_anchors g c =
    let old = g.F.Flash.device c.args.flash.now in
    let mid = g.F.Flash.device c.next_sequence.new.flash in
    let all = OnlyAnchors_on old mid (g.F.Flash.device c.commit_as.new.commit.flash.now) c.args.bad.now c.args.bad.now c.commit_as.new.commit.bad.now (reads_only_anchors old mid c.args.bad.now c.in_ok-next.ensures.only_reads) c.commit_as.ensures.leaves.only_anchors in
    search rules

pub returns-clause-untouched : goal.returns-clause-untouched
returns-clause-untouched g c =
    let old = g.F.Flash.device c.args.flash.now in
    let mid = g.F.Flash.device c.next_sequence.new.flash in
    let new = g.F.Flash.device c.commit_as.new.commit.flash.now in
    let now = c.commit_as.new.commit.bad.now in
    let reads = c.in_ok-next.ensures.only_reads in
    let leaves = c.commit_as.ensures.leaves in
    in_vain_untouched old new _ now _ c.commit_as.result (search rules) (search rules)
    (in_vain_on old mid new c.args.bad.now c.args.bad.now now c.commit_as.result (reads_only_anchors old mid c.args.bad.now reads) leaves.only_anchors (reads_untouched old mid c.args.bad.now reads) leaves.in_vain)

pub returns-clause-ready : goal.returns-clause-ready
returns-clause-ready g c = λ on.
    may_commit_then (g.F.Flash.device c.commit_as.new.commit.flash.now) _ c.commit_as.new.commit.bad.now _ c.commit_as.new.self (search rules) (search rules) (c.commit_as.ensures.ready on)

pub returns-clause-at_once : goal.returns-clause-at_once
returns-clause-at_once g c = λ full. absurd (both_ways (is_read_only c.args.bad.now) (sym c.is_read_only.ensures ∙ c.if-is_read_only.false) full)

pub returns-clause-last : goal.returns-clause-last
returns-clause-last g c = λ all. absurd (let is = c.in_ok-next.ensures.next in let lt = c.in_ok-next.ensures.left in omega (arith, is, lt, all))

pub returns-clause-why : goal.returns-clause-why
returns-clause-why g c =
    let all = try_commit_cause (g.F.Flash.device c.args.flash.now) (g.F.Flash.device c.next_sequence.new.flash) c.args.bad.now c.args.self.now (g.F.Flash.device c.commit_as.new.commit.flash.now) c.commit_as.new.commit.bad.now c.commit_as.result c.commit_as.ensures.leaves.in_vain in
    search rules
