use Rattle.std.proofs.Common.{◌≡◌, ◌*◌}
use Rattle.std.specs.List.{range_with_len}
use Rattle.std.specs.Prelude.{count_by}
use Rattle.block_ring.specs.Bits.{is_set}
use Rattle.block_ring.proofs.block_set.BlockSet.count_in_words.Given as goal

-- the bits of the words that were looked at are counted
abbrev pub invariant-loop-place : goal.invariant-loop-place
invariant-loop-place l = l.ones ≡ count_by (is_set l.self-inside.words.items) (range_with_len 0 (64 * l.place))
