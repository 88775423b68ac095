-- The mark of a page that is written: eight bytes beside those of other pages.
use Rattle.std.specs.Prelude.{◌≡◌, ℕ, ◌*◌, ◌&&◌, List, [], ◌∷◌, ◌++◌, take, drop, bytes_eq, if◌then◌else◌}
use Rattle.byteorder.specs.Endian.{little_bytes}
use Rattle.flash_model.specs.Device.{Page, erased, bytes_of, unreadable}
use Rattle.nor_part.specs.Part.{is_blank}
use Rattle.dense_nor.specs.Sums.{crc_of}

-- the four bytes with which a mark begins: 16 of their 32 bits are set, and none of the bytes is 0 or 255
abbrev pub mark_start : List ℕ
mark_start = 85 ∷ 78 ∷ 79 ∷ 82 ∷ []

-- the mark of a page of these bytes: it ends with their sum, the lowest byte first
abbrev pub mark_of : List ℕ → List ℕ
mark_of bytes = mark_start ++ little_bytes 4 (crc_of bytes)

-- the eight bytes at a place of a page of marks
abbrev pub entry_of : List ℕ → ℕ → List ℕ
entry_of page i = take 8 (drop (8 * i) page)

-- they begin as a mark does
abbrev pub BeginsMark : List ℕ → Type 0
BeginsMark entry = take 4 entry ≡ mark_start

-- what a page is, by its bytes and the eight bytes at its place
abbrev pub page_from : List ℕ → List ℕ → Page
page_from bytes entry = if bytes_eq entry (mark_of bytes) then bytes_of bytes else (if is_blank entry && is_blank bytes then erased else unreadable)
