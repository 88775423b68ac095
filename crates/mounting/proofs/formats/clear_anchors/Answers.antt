use Rattle.std.proofs.Common.{◌≡◌, ℕ, ◌≤◌, ap, subst, ◌∙◌, arith}
use Rattle.std.specs.FinSet as set
use Rattle.std.specs.Ordering.{nat_cmp}
use Rattle.anchors.specs.Anchored.{OnlyAnchors}
use Rattle.mounting.proofs.Formatting.{cleared, cleared_why, clears_asked}
use Rattle.mounting.proofs.formats.clear_anchors.Goals as goal

pub clear-requires-clause-good : goal.clear-requires-clause-good
clear-requires-clause-good g c = λ b below. ap (λ (s : set.FinSet nat_cmp). set.contains s b) c.new-bad.ensures ∙ set.contains-empty nat_cmp b

pub clear-requires-clause-room : goal.clear-requires-clause-room
clear-requires-clause-room g c = let none : set.len c.new-bad.result ≡ 0 = ap set.len c.new-bad.ensures ∙ set.len-empty nat_cmp in omega arith

pub returns-then-bad_anchors-ge7-clause-why : goal.returns-then-bad_anchors-ge7-clause-why
returns-then-bad_anchors-ge7-clause-why g c =
    let d = g.F.Flash.device c.args.flash.now in
    let e = g.F.Flash.device c.clear.new.flash in
    cleared_why d e c.clear.new.bad (subst (λ (was : set.FinSet nat_cmp). OnlyAnchors d was e c.clear.new.bad) c.new-bad.ensures c.clear.ensures.only_anchors)
    (subst (λ (n : ℕ). 7 ≤ n) c.bad_anchors.ensures c.if-bad_anchors-ge7.true)

pub returns-clause-cleared : goal.returns-clause-cleared
returns-clause-cleared g c =
    cleared (g.F.Flash.device c.args.flash.now) (g.F.Flash.device c.clear.new.flash) c.new-bad.result c.clear.new.bad c.new-bad.ensures c.clear.ensures.only_anchors c.in_ok-clear.ensures.erased c.clear.ensures.fades

pub returns-in_err-clear-clause-asks : goal.returns-in_err-clear-clause-asks
returns-in_err-clear-clause-asks g c =
    clears_asked (g.F.Flash.device c.args.flash.now) (g.F.Flash.device c.clear.new.flash) c.new-bad.result c.clear.new.bad c.new-bad.ensures c.clear.ensures.only_anchors c.in_err-clear.ensures.operations

pub returns-then-bad_anchors-ge7-clause-asks : goal.returns-then-bad_anchors-ge7-clause-asks
returns-then-bad_anchors-ge7-clause-asks g c =
    clears_asked (g.F.Flash.device c.args.flash.now) (g.F.Flash.device c.clear.new.flash) c.new-bad.result c.clear.new.bad c.new-bad.ensures c.clear.ensures.only_anchors (let each = c.in_ok-clear.ensures.operations in omega arith)

pub returns-clause-asks : goal.returns-clause-asks
returns-clause-asks g c =
    clears_asked (g.F.Flash.device c.args.flash.now) (g.F.Flash.device c.clear.new.flash) c.new-bad.result c.clear.new.bad c.new-bad.ensures c.clear.ensures.only_anchors (let each = c.in_ok-clear.ensures.operations in omega arith)
