use Rattle.std.proofs.Common.{◌≡◌, take, map}
use Rattle.record_format.specs.declared.record.Checkpoint.{Checkpoint}
use Rattle.salvages.proofs.kept_records.list_names.Given as goal

abbrev pub invariant-loop-checkpoint : goal.invariant-loop-checkpoint
invariant-loop-checkpoint l = l.names.items ≡ map (λ (c : Checkpoint). c.name) (take l.checkpoint-index l.checkpoints)
