use Rattle.std.proofs.Common.{◌≡◌, ◌-◌}
use Rattle.record_format.specs.Items.{many_at, block_at}
use Rattle.record_format.proofs.Many.{onto}
use Rattle.record_format.proofs.payload_decoding.blocks_of.Given as goal

abbrev pub invariant-loop : goal.invariant-loop
invariant-loop l = onto l.blocks (many_at block_at (l.count - l.counter) l.rest) ≡ many_at block_at l.count l.bytes
