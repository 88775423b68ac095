use Rattle.std.proofs.Common.{◌≡◌, ℕ, ◌<◌, true}
use Rattle.std.specs.FinSet as set
use Rattle.anchors.proofs.anchors.lowest_good.Given as goal

abbrev pub invariant-loop-anchor : goal.invariant-loop-anchor
invariant-loop-anchor l = (b : ℕ) → b < l.anchor → set.contains l.bad b ≡ true
