-- Where the pages of a flash stand on a serial NOR part of the dense layout: the data of a block in the first pages of its sectors,
-- their marks in the last ones.
use Rattle.std.specs.Prelude.{ℕ, ◌+◌, ◌-◌, ◌*◌, ◌/◌, ◌%◌, ◌≤◌, List}
use Rattle.flash_model.specs.declared.geometry.Geometry.{Geometry}
use Rattle.flash_model.specs.Device.{Page}
use Rattle.dense_nor.specs.Marks.{entry_of, page_from}

-- so many sectors may a block have
abbrev pub IsDense : ℕ → Type 0
IsDense n = (2 ≤ n) × (n ≤ 64)

-- the pages of marks of a block of n sectors: a page has the marks of 32 pages
unfoldable pub mark_pages : ℕ → ℕ
mark_pages n = (16 * n + 32) / 33

-- its pages of data
unfoldable pub data_pages : ℕ → ℕ
data_pages n = 16 * n - mark_pages n

-- pages of 256 bytes, and so many in a block
abbrev pub dense_sizes : ℕ → ℕ → Geometry
dense_sizes n blocks = record { page = 256; pages = data_pages n; blocks = blocks }

-- how many blocks a part of so many pages has
unfoldable pub blocks_of : ℕ → ℕ → ℕ
blocks_of n count = count / (16 * n)

-- the page of the part that has the data of a page
unfoldable pub data_at : ℕ → ℕ → ℕ
data_at n p = 16 * n * (p / data_pages n) + p % data_pages n

-- the page of the part that has its mark
unfoldable pub mark_at : ℕ → ℕ → ℕ
mark_at n p = 16 * n * (p / data_pages n) + data_pages n + p % data_pages n / 32

-- the place of its mark there
unfoldable pub place_of : ℕ → ℕ → ℕ
place_of n p = p % data_pages n % 32

-- the page of a number
abbrev pub page_in : ℕ → (ℕ → List ℕ) → ℕ → Page
page_in n held p = page_from (held (data_at n p)) (entry_of (held (mark_at n p)) (place_of n p))
