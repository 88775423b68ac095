use Rattle.anchors.specs.Commit.{IsSameCommit}
use Rattle.anchors.proofs.Following.{TriedBefore}
use Rattle.anchors.proofs.commit.Commit.after.Given as goal

abbrev pub invariant-loop-step : goal.invariant-loop-step
invariant-loop-step g l = record {
  same : IsSameCommit l.initial.self l.self;
  so_far : TriedBefore (g.F.Flash.device l.initial.self.flash.now) l.initial.self.bad.now (g.F.Flash.device l.self.flash.now) l.self.bad.now l.initial.self.saved.now l.home l.place l.step;
}
