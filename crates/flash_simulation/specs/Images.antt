-- The one spelling of a flash as an image, and what is wrong with other bytes.
use Rattle.std.specs.Prelude.{◌≡◌, ◌≢◌, ◌⊎◌, ℕ, zero, suc, ◌+◌, ◌*◌, ◌^◌, ◌<◌, Bool, true, false, List, [], ◌∷◌, ◌++◌, length, slice_index, codes}
use Rattle.byteorder.specs.Endian.{little_bytes}
use Rattle.flash_model.specs.declared.geometry.Geometry.{Geometry}
use Rattle.flash_model.specs.Geometry.{IsGeometry, page_count}
use Rattle.flash_model.specs.Device.{Device, Page, erased, bytes_of, unreadable}
use Rattle.flash_model.specs.Contents.{IsWhole}
use Rattle.flash_simulation.specs.declared.image_fault.ImageFault.{ImageFault}
use Rattle.flash_simulation.specs.declared.image_fault.ImageFault.TheVariants.{NotImage, BadGeometry, BadState, Truncated, Trailing, Memory}

-- the first eight bytes
abbrev pub magic : List ℕ
magic = codes "UFFSIMG1"

-- the bytes before the first block: the magic, and the sizes in four bytes each, the lowest first
unfoldable pub header : Geometry → List ℕ
header g = magic ++ (little_bytes 4 g.page ++ (little_bytes 4 g.pages ++ little_bytes 4 g.blocks))

-- a text of n parts, one after the other
unfoldable pub parts : ℕ → (ℕ → List ℕ) → List ℕ
parts zero part = []
parts (suc n) part = parts n part ++ part n

-- a page
abbrev pub page_text : Page → List ℕ
page_text erased = 0 ∷ []
page_text (bytes_of bytes) = 1 ∷ bytes
page_text unreadable = 2 ∷ []

-- whether a block is worn
abbrev pub worn_text : Bool → List ℕ
worn_text true = 1 ∷ []
worn_text false = 0 ∷ []

-- page j of block b
abbrev pub place_text : Device → ℕ → ℕ → List ℕ
place_text d b j = page_text (d.pages (b * d.geometry.pages + j))

-- block b
abbrev pub block_text : Device → ℕ → List ℕ
block_text d b = worn_text (d.worn b) ++ parts d.geometry.pages (place_text d b)

-- all blocks
abbrev pub blocks_text : Device → List ℕ
blocks_text d = parts d.geometry.blocks (block_text d)

-- the image of a flash
abbrev pub image_of : Device → List ℕ
image_of d = header d.geometry ++ blocks_text d

-- a flash that has an image: lawful sizes, and the bytes of a whole page in each page with data
pub record HasImage (d : Device) : Type 0 where
  pub lawful : IsGeometry d.geometry
  pub whole : (p : ℕ) → p < page_count d.geometry → IsWhole d.geometry.page (d.pages p)

-- the bytes before block b
abbrev pub before_block : Device → ℕ → List ℕ
before_block d b = header d.geometry ++ parts b (block_text d)

-- the bytes before page j of block b
abbrev pub before_page : Device → ℕ → ℕ → List ℕ
before_page d b j = before_block d b ++ (worn_text (d.worn b) ++ parts j (place_text d b))

-- one of the first eight bytes differs
pub record HasOtherMagic (bytes : List ℕ) : Type 0 where
  pub place : ℕ
  pub early : place < 8
  pub inside : place < length bytes
  pub differs : slice_index bytes place ≢ slice_index magic place

-- sizes of four bytes each
pub record AreSizes (g : Geometry) : Type 0 where
  pub page : g.page < 2 ^ 32
  pub pages : g.pages < 2 ^ 32
  pub blocks : g.blocks < 2 ^ 32

-- the header is whole, and its sizes are not lawful
pub record HasOtherSizes (bytes : List ℕ) : Type 0 where
  pub sizes : Geometry
  pub fit : AreSizes sizes
  pub unlawful : ¬ IsGeometry sizes
  pub rest : List ℕ
  pub spelled : bytes ≡ header sizes ++ rest

-- a beginning of a text, and not all of it
pub record IsPartOf (text bytes : List ℕ) : Type 0 where
  pub more : List ℕ
  pub some : more ≢ []
  pub whole : bytes ++ more ≡ text

-- the bytes are a part of a header, or of the image of a flash
abbrev pub EndsInside : List ℕ → Type 0
EndsInside bytes = ((g : Geometry) × AreSizes g × IsPartOf (header g) bytes) ⊎ ((d : Device) × HasImage d × IsPartOf (image_of d) bytes)

-- the bytes are those before a block of a flash, then another byte than 0 and 1
pub record HasOtherWorn (bytes : List ℕ) : Type 0 where
  pub flash : Device
  pub image : HasImage flash
  pub block : ℕ
  pub in_flash : block < flash.geometry.blocks
  pub byte : ℕ
  pub unknown : 1 < byte
  pub rest : List ℕ
  pub spelled : bytes ≡ before_block flash block ++ byte ∷ rest

-- the bytes are those before a page of a flash, then another byte than 0, 1 and 2
pub record HasOtherPage (bytes : List ℕ) : Type 0 where
  pub flash : Device
  pub image : HasImage flash
  pub block : ℕ
  pub in_flash : block < flash.geometry.blocks
  pub place : ℕ
  pub in_block : place < flash.geometry.pages
  pub byte : ℕ
  pub unknown : 2 < byte
  pub rest : List ℕ
  pub spelled : bytes ≡ before_page flash block place ++ byte ∷ rest

-- the bytes are the image of a flash, and more
pub record IsLongerImage (bytes : List ℕ) : Type 0 where
  pub flash : Device
  pub image : HasImage flash
  pub more : List ℕ
  pub some : more ≢ []
  pub spelled : bytes ≡ image_of flash ++ more

-- what is wrong with the bytes; a want of memory is no fault of theirs
abbrev pub IsFault : ImageFault → List ℕ → Type 0
IsFault NotImage bytes = HasOtherMagic bytes
IsFault BadGeometry bytes = HasOtherSizes bytes
IsFault BadState bytes = HasOtherWorn bytes ⊎ HasOtherPage bytes
IsFault Truncated bytes = EndsInside bytes
IsFault Trailing bytes = IsLongerImage bytes
IsFault Memory bytes = ⊥

-- one flash holds what another does: the same sizes, pages and worn blocks
pub record HoldsTheSame (d e : Device) : Type 0 where
  pub geometry : e.geometry ≡ d.geometry
  pub pages : (p : ℕ) → p < page_count d.geometry → e.pages p ≡ d.pages p
  pub worn : (b : ℕ) → b < d.geometry.blocks → e.worn b ≡ d.worn b

-- power is on, and nothing has happened yet
pub record IsFresh (d : Device) : Type 0 where
  pub powered : d.powered ≡ true
  pub failed_reads : d.failed_reads ≡ 0
  pub failures : d.failures ≡ 0
  pub cuts : d.cuts ≡ 0
  pub operations : d.operations ≡ 0
