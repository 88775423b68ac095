use Rattle.std.proofs.Common.{◌≡◌, [], drop}
use Rattle.record_format.specs.Payloads.{names_ascend}
use Rattle.record_format.proofs.lawful.names_ascend.Given as goal

abbrev pub invariant-loop-checkpoint : goal.invariant-loop-checkpoint
invariant-loop-checkpoint l = names_ascend l.before (drop l.checkpoint-index l.checkpoints) ≡ names_ascend [] l.checkpoints
