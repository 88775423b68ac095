use Rattle.std.proofs.Common.{◌≡◌, take}
use Rattle.directory.proofs.trail.Trail.front.Given as goal

abbrev pub invariant-loop-block : goal.invariant-loop-block
invariant-loop-block l = l.front ≡ take l.block-index l.block-items
