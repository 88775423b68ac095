use Rattle.std.proofs.Common.{◌≡◌, ℕ, ◌<◌, ◌≤◌, true}
use Rattle.std.specs.FinSet as set
use Rattle.anchors.specs.Committing.{anchor_after}
use Rattle.anchors.proofs.next_anchor.next_good.Given as goal

abbrev pub invariant-loop-step : goal.invariant-loop-step
invariant-loop-step l = (k : ℕ) → 1 ≤ k → k < l.step → set.contains l.bad (anchor_after l.home k) ≡ true
