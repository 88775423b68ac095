use Rattle.std.proofs.Common.{◌≡◌, take, map}
use Rattle.record_format.specs.declared.record.Checkpoint.{Checkpoint}
use Rattle.mounting.proofs.restored.checkpoints_of.Given as goal

abbrev pub invariant-loop-checkpoint : goal.invariant-loop-checkpoint
invariant-loop-checkpoint l = l.checkpoints.entries ≡ map (λ (c : Checkpoint). (c.name, c.root)) (take l.checkpoint-index l.saved)
