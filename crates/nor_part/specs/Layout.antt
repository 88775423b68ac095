-- Where the pages of a flash stand on a serial NOR part: the data of a block in one sector, its marks in the next.
use Rattle.std.specs.Prelude.{ℕ, ◌+◌, ◌*◌, ◌/◌, ◌==◌, ◌&&◌, List, slice_index, if◌then◌else◌}
use Rattle.flash_model.specs.declared.geometry.Geometry.{Geometry}
use Rattle.flash_model.specs.Device.{Page, erased, bytes_of, unreadable}
use Rattle.nor_part.specs.Part.{is_blank}

-- how many blocks a part of so many pages has: of two sectors each
abbrev pub blocks_of : ℕ → ℕ
blocks_of count = count / 32

-- pages of 256 bytes, 16 in a block
abbrev pub part_sizes : ℕ → Geometry
part_sizes blocks = record { page = 256; pages = 16; blocks = blocks }

-- the page of the part that has the data
abbrev pub data_page : ℕ → ℕ
data_page p = p + 16 * (p / 16)

-- the page of the part that begins with the mark
abbrev pub mark_page : ℕ → ℕ
mark_page p = p + 16 * (p / 16) + 16

-- what a page is, by its bytes and its mark
abbrev pub page_from : List ℕ → ℕ → Page
page_from bytes mark = if mark == 0 then bytes_of bytes else (if (mark == 255) && is_blank bytes then erased else unreadable)

-- the page of a number
abbrev pub page_in : (ℕ → List ℕ) → ℕ → Page
page_in held p = page_from (held (data_page p)) (slice_index (held (mark_page p)) 0)
