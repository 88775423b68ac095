-- Blocks as the bits of 64-bit words.
use Rattle.std.specs.Prelude.{ℕ, ◌/◌, ◌%◌, ◌==◌, Bool, List, slice_index}
use Rattle.std.specs.FinSet as set
use Rattle.std.specs.Int.{bit_at}
use Rattle.std.specs.List.{range_with_len}
use Rattle.std.specs.Ordering.{nat_cmp}

-- whether the bit of block b is set, which is bit b % 64 of word b / 64
abbrev pub is_set : List ℕ → ℕ → Bool
is_set words b = bit_at (slice_index words (b / 64)) (b % 64) == 1

-- the blocks below n whose bit is set
unfoldable pub members_of : ℕ → List ℕ → set.FinSet nat_cmp
members_of n words = set.retain (set.from_list (range_with_len 0 n)) (is_set words)
