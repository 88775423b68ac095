-- The layouts of a serial NOR part.
use Rattle.std.specs.Prelude.{◌≡◌, ℕ, ◌*◌, List}
use Rattle.flash_model.specs.declared.geometry.Geometry.{Geometry}
use Rattle.flash_model.specs.Device.{Page}
use Rattle.nor_part.specs.Layout as sure
use Rattle.dense_nor.specs.Layout as dense
use Rattle.raw_part.specs.declared.part_layout.PartLayout.{PartLayout}
use Rattle.raw_part.specs.declared.part_layout.PartLayout.TheVariants.{Sure, Dense}

-- sectors of a block
abbrev pub sectors_of : PartLayout → ℕ
sectors_of Sure = 2
sectors_of (Dense layout) = layout.sectors

-- its pages
abbrev pub pages_of : PartLayout → ℕ
pages_of Sure = 16
pages_of (Dense layout) = dense.data_pages layout.sectors

-- bytes of the part for a block: sectors have 4,096
abbrev pub part_block : PartLayout → ℕ
part_block layout = 4096 * sectors_of layout

-- the sizes of a flash of so many blocks
abbrev pub sizes_of : PartLayout → ℕ → Geometry
sizes_of layout blocks = record { page = 256; pages = pages_of layout; blocks = blocks }

-- the flash has the sizes of one on a part of this layout
abbrev pub HasSizes : PartLayout → Geometry → Type 0
HasSizes layout sizes = sizes ≡ sizes_of layout sizes.blocks

-- and there is such a layout
abbrev pub HasLayout : Geometry → Type 0
HasLayout sizes = (layout : PartLayout) × HasSizes layout sizes

-- the page of the part that has the mark of a page
abbrev pub mark_page : PartLayout → ℕ → ℕ
mark_page Sure p = sure.mark_page p
mark_page (Dense layout) p = dense.mark_at layout.sectors p

-- the page of a number, of a part whose pages have these bytes
abbrev pub page_in : PartLayout → (ℕ → List ℕ) → ℕ → Page
page_in Sure held p = sure.page_in held p
page_in (Dense layout) held p = dense.page_in layout.sectors held p
