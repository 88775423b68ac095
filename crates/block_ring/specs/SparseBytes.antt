-- The bytes of blocks, four in a word.
use Rattle.std.specs.Prelude.{ℕ, ◌/◌, ◌%◌, List, map, slice_index}
use Rattle.std.specs.Int.{w32, to_le_bytes}
use Rattle.std.specs.List.{range_with_len}

-- the byte of a block
abbrev pub byte_in : List ℕ → ℕ → ℕ
byte_in words b = slice_index (to_le_bytes w32 (slice_index words (b / 4))) (b % 4)

-- of all blocks
abbrev pub bytes_of : ℕ → List ℕ → List ℕ
bytes_of blocks words = map (byte_in words) (range_with_len 0 blocks)
