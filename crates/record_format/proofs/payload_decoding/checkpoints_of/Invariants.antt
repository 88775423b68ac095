use Rattle.std.proofs.Common.{◌≡◌, ◌-◌}
use Rattle.record_format.specs.Items.{many_at, checkpoint_at}
use Rattle.record_format.proofs.Many.{onto}
use Rattle.record_format.proofs.payload_decoding.checkpoints_of.Given as goal

abbrev pub invariant-loop : goal.invariant-loop
invariant-loop l = onto l.checkpoints (many_at checkpoint_at (l.count - l.counter) l.rest) ≡ many_at checkpoint_at l.count l.bytes
