-- The bytes of a serial NOR part on which a flash stands.
use Rattle.std.specs.Prelude.{◌≡◌, ℕ, ◌+◌, ◌-◌, ◌*◌, ◌/◌, ◌%◌, ◌<◌, false, List, ◌∷◌, length, take, drop, replicate, nat_lt, if◌then◌else◌}
use Rattle.flash_model.specs.Device.{Device, Page, erased, bytes_of, unreadable}
use Rattle.flash_model.specs.Geometry.{IsGeometry, page_count}
use Rattle.flash_simulation.specs.Images.{IsFresh, parts}
use Rattle.dense_nor.specs.Layout.{data_pages}
use Rattle.dense_nor.specs.Marks as dense
use Rattle.raw_part.specs.declared.part_layout.PartLayout.{PartLayout}
use Rattle.raw_part.specs.declared.part_layout.PartLayout.TheVariants.{Sure, Dense}
use Rattle.raw_part.specs.Layouts.{HasSizes, page_in, part_block, sectors_of, sizes_of}

-- the pages of a part that has these bytes, of 256 bytes each
abbrev pub held_in : List ℕ → ℕ → List ℕ
held_in bytes n = take 256 (drop (256 * n) bytes)

-- the bytes are those of a part of this layout on which this flash stands: so many for each block, and each page is the one that
-- the part holds
pub record IsRaw (layout : PartLayout) (d : Device) (bytes : List ℕ) : Type 0 where
  pub lawful : IsGeometry d.geometry
  pub sizes : HasSizes layout d.geometry
  pub len : length bytes ≡ part_block layout * d.geometry.blocks
  pub pages : (p : ℕ) → p < page_count d.geometry → page_in layout (held_in bytes) p ≡ d.pages p

-- they are those of a part of the layout that the flash has the sizes of
abbrev pub IsRawOf : Device → List ℕ → Type 0
IsRawOf d bytes = (layout : PartLayout) × IsRaw layout d bytes

-- the flash of such a part, with its power on and no block worn
pub record IsRawFlash (layout : PartLayout) (bytes : List ℕ) (d : Device) : Type 0 where
  pub fresh : IsFresh d
  pub unworn : (b : ℕ) → d.worn b ≡ false
  pub raw : IsRaw layout d bytes

-- so many bytes are those of a part: whole blocks, as many as a flash may have
pub record IsRawLength (layout : PartLayout) (n : ℕ) : Type 0 where
  pub whole : n % part_block layout ≡ 0
  pub lawful : IsGeometry (sizes_of layout (n / part_block layout))

-- the data of a page on the part: those of one that has none are blank
abbrev pub data_text : Page → List ℕ
data_text erased = replicate 256 255
data_text (bytes_of bytes) = bytes
data_text unreadable = replicate 256 255

-- its mark in the layout `sure`
abbrev pub mark_of : Page → ℕ
mark_of erased = 255
mark_of (bytes_of bytes) = 0
mark_of unreadable = 15

-- the page of the part that begins with the mark
abbrev pub mark_text : Page → List ℕ
mark_text page = mark_of page ∷ replicate 255 255

-- its mark in the layout `dense`
abbrev pub entry_text : Page → List ℕ
entry_text erased = replicate 8 255
entry_text (bytes_of bytes) = dense.mark_of bytes
entry_text unreadable = replicate 8 0

-- the mark at a place of a block of k pages: past the last page it is blank
abbrev pub place_text : ℕ → (ℕ → Page) → ℕ → List ℕ
place_text k pages place = if nat_lt place k then entry_text (pages place) else replicate 8 255

-- the page of the part with the marks of 32 pages of such a block
abbrev pub marks_text : ℕ → (ℕ → Page) → ℕ → List ℕ
marks_text k pages number = parts 32 (λ i. place_text k pages (32 * number + i))

-- the page of a number in block b: of data, and then of marks
abbrev pub block_page : PartLayout → Device → ℕ → ℕ → List ℕ
block_page Sure d b at = if nat_lt at 16 then data_text (d.pages (16 * b + at)) else mark_text (d.pages (16 * b + at - 16))
block_page (Dense layout) d b at =
    if nat_lt at (data_pages layout.sectors) then data_text (d.pages (data_pages layout.sectors * b + at))
    else marks_text (data_pages layout.sectors) (λ place. d.pages (data_pages layout.sectors * b + place)) (at - data_pages layout.sectors)

-- the page of a number of the part
abbrev pub part_page : PartLayout → Device → ℕ → List ℕ
part_page layout d n = block_page layout d (n / (16 * sectors_of layout)) (n % (16 * sectors_of layout))
