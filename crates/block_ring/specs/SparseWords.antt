-- The words of blocks, in chunks of 64 of which some were made.
use Rattle.std.specs.Prelude.{◌≡◌, ◌≢◌, ℕ, zero, suc, ◌/◌, ◌%◌, ◌<◌, ◌≤◌, List, [], length, map, slice_index, slice_index_or}
use Rattle.std.specs.Prelude.{Box}
use Rattle.std.specs.Global.{Global}
use Rattle.std.specs.List.{range_with_len}

-- the words of chunks
abbrev pub lists_of : List (Box (List ℕ) Global) → List (List ℕ)
lists_of chunks = map (λ c. c.value) chunks

-- the words of the chunk with a place: none where it was not made, which is place 0
abbrev pub chunk_at : List (List ℕ) → ℕ → List ℕ
chunk_at chunks zero = []
chunk_at chunks (suc index) = slice_index_or chunks index []

-- the word of a block
abbrev pub word_in : List ℕ → List (List ℕ) → ℕ → ℕ
word_in places chunks b = slice_index (chunk_at chunks (slice_index places (b / 64))) (b % 64)

-- of all blocks
abbrev pub words_of : ℕ → List ℕ → List (List ℕ) → List ℕ
words_of blocks places chunks = map (word_in places chunks) (range_with_len 0 blocks)

-- each place is 0 or has a chunk of its own, and chunks are whole
pub record AreChunked (places : List ℕ) (chunks : List (List ℕ)) : Type 0 where
  pub within : (i : ℕ) → slice_index places i ≤ length chunks
  pub apart : (i j : ℕ) → slice_index places i ≢ 0 → slice_index places i ≡ slice_index places j → i ≡ j
  pub whole : (k : ℕ) → k < length chunks → length (slice_index_or chunks k []) ≡ 64
