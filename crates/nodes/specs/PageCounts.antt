-- How many pages bytes of a node take.
use Rattle.std.specs.Prelude.{ℕ, ◌+◌, ◌-◌, ◌/◌, List, length, Option, Some, None}
use Rattle.std.specs.Int.{div_ceil}

-- how many pages so many bytes need
abbrev pub pages_for : ℕ → ℕ → ℕ
pages_for page size = div_ceil size page

-- how many pages hold so many bytes from an offset on
abbrev pub pages_of_range : ℕ → ℕ → ℕ → ℕ
pages_of_range page offset count = pages_for page (offset + count) - offset / page

-- how many pages a read of a node asks at most: those that its bytes need, or those of a block where there is none
abbrev pub most_pages : ℕ → ℕ → Option (List ℕ) → ℕ
most_pages page limit None = pages_for page limit
most_pages page limit (Some bytes) = pages_for page (length bytes)
