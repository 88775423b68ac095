use Rattle.std.proofs.Common.{◌≡◌, ℕ, ◌<◌, ◌*◌, false}
use Rattle.block_ring.specs.Bits.{is_set}
use Rattle.block_ring.proofs.block_set.BlockSet.is_empty.Given as goal

-- no bit of a block is set in the words that were looked at
abbrev pub invariant-loop-place : goal.invariant-loop-place
invariant-loop-place l = (q : ℕ) → q < 64 * l.place → q < l.self-inside.blocks → is_set l.self-inside.words.items q ≡ false
