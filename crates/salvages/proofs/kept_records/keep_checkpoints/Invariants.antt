use Rattle.std.proofs.Common.{◌≡◌, take}
use Rattle.salvages.specs.Kept.{kept_checkpoints}
use Rattle.salvages.proofs.kept_records.keep_checkpoints.Given as goal

abbrev pub invariant-loop-checkpoint : goal.invariant-loop-checkpoint
invariant-loop-checkpoint l = l.kept.items ≡ kept_checkpoints l.lost (take l.checkpoint-index l.checkpoints)
