use Rattle.mounting.proofs.RestoredParts.{IsListed}
use Rattle.mounting.proofs.restored.list_bad.Given as goal

abbrev pub invariant-loop-block : goal.invariant-loop-block
invariant-loop-block l = IsListed l.bad l.saved l.block-index
