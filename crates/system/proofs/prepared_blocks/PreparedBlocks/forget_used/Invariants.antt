use Rattle.std.proofs.Common.{◌≡◌, ℕ}
use Rattle.std.specs.FinSet as set
use Rattle.std.specs.Prelude.{◌&&◌, not, nat_lt}
use Rattle.system.proofs.prepared_blocks.PreparedBlocks.forget_used.Given as goal

-- the used blocks that were looked at are taken out
abbrev pub invariant-loop-block : goal.invariant-loop-block
invariant-loop-block l = record {
  blocks : l.self.blocks ≡ l.initial.self.blocks;
  members : (b : ℕ) → set.contains l.self.members b ≡ (set.contains l.initial.self.members b && not (nat_lt b l.block && set.contains l.ring.used b));
}
