use Rattle.std.proofs.Common.{◌≡◌, ℕ, ◌+◌, ◌<◌, ◌≤◌, false}
use Rattle.std.specs.FinSet as set
use Rattle.fs_types.specs.declared.limits.TheConstants.{ANCHORS}
use Rattle.anchors.specs.Anchored.{OnlyAnchors, Fades, AreErased}
use Rattle.anchors.proofs.anchors.Anchors.clear.Given as goal

abbrev pub invariant-loop-anchor : goal.invariant-loop-anchor
invariant-loop-anchor g l = record {
  only_anchors : OnlyAnchors (g.F.Flash.device l.initial.flash) l.initial.bad (g.F.Flash.device l.flash) l.bad;
  fades : Fades (g.F.Flash.device l.initial.flash).pages (g.F.Flash.device l.flash).pages;
  reads : (g.F.Flash.device l.flash).failed_reads ≡ (g.F.Flash.device l.initial.flash).failed_reads;
  operations : (g.F.Flash.device l.flash).operations ≡ (g.F.Flash.device l.initial.flash).operations + l.anchor;
  erased : AreErased (g.F.Flash.device l.flash) l.bad l.anchor;
  good : (b : ℕ) → l.anchor ≤ b → b < ANCHORS → set.contains l.bad b ≡ false;
  room : set.len l.bad + ANCHORS ≤ 256 + l.anchor;
}
