use Rattle.std.proofs.Common.{◌≡◌, take}
use Rattle.salvages.specs.Kept.{lost_names}
use Rattle.salvages.proofs.kept_records.list_lost_names.Given as goal

abbrev pub invariant-loop-checkpoint : goal.invariant-loop-checkpoint
invariant-loop-checkpoint l = l.names.items ≡ lost_names l.lost (take l.checkpoint-index l.checkpoints)
