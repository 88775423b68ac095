-- How far reading has come when it stops, and what it has put into the flash by then.
use Rattle.std.specs.Prelude.{◌≡◌, ◌⊎◌, ℕ, ◌*◌, ◌<◌, List, [], ◌∷◌, ◌++◌}
use Rattle.flash_model.specs.Device.{Device, Page}
use Rattle.flash_model.specs.Contents.{IsWhole}
use Rattle.flash_simulation.specs.declared.image_fault.ImageFault.{ImageFault}
use Rattle.flash_simulation.specs.declared.image_fault.ImageFault.TheVariants.{NotImage, BadGeometry, BadState, Truncated, Trailing, Memory}
use Rattle.flash_simulation.specs.Images.{parts, page_text, worn_text, place_text, block_text, IsPartOf}

-- what is wrong where a block begins
abbrev pub WornFault : ImageFault → List ℕ → Type 0
WornFault NotImage rest = ⊥
WornFault BadGeometry rest = ⊥
WornFault BadState rest = (byte : ℕ) × (after : List ℕ) × (1 < byte) × (rest ≡ byte ∷ after)
WornFault Truncated rest = rest ≡ []
WornFault Trailing rest = ⊥
WornFault Memory rest = ⊥

-- what is wrong where a page begins
abbrev pub PageFault : ℕ → ImageFault → List ℕ → Type 0
PageFault size NotImage rest = ⊥
PageFault size BadGeometry rest = ⊥
PageFault size BadState rest = (byte : ℕ) × (after : List ℕ) × (2 < byte) × (rest ≡ byte ∷ after)
PageFault size Truncated rest = (page : Page) × IsWhole size page × IsPartOf (page_text page) rest
PageFault size Trailing rest = ⊥
PageFault size Memory rest = ⊥

-- pages of a block, and then what is wrong
pub record PagesFault (d : Device) (b : ℕ) (fault : ImageFault) (bytes : List ℕ) : Type 0 where
  pub place : ℕ
  pub in_block : place < d.geometry.pages
  pub rest : List ℕ
  pub spelled : bytes ≡ parts place (place_text d b) ++ rest
  pub wrong : PageFault d.geometry.page fault rest

-- a block that goes wrong at one of its pages
pub record InPages (d : Device) (b : ℕ) (fault : ImageFault) (bytes : List ℕ) : Type 0 where
  pub rest : List ℕ
  pub spelled : bytes ≡ worn_text (d.worn b) ++ rest
  pub wrong : PagesFault d b fault rest

-- a block that goes wrong at its beginning or at one of its pages
abbrev pub BlockFault : Device → ℕ → ImageFault → List ℕ → Type 0
BlockFault d b fault bytes = WornFault fault bytes ⊎ InPages d b fault bytes

-- blocks, and then what is wrong
pub record BlocksFault (d : Device) (fault : ImageFault) (bytes : List ℕ) : Type 0 where
  pub block : ℕ
  pub in_flash : block < d.geometry.blocks
  pub rest : List ℕ
  pub spelled : bytes ≡ parts block (block_text d) ++ rest
  pub wrong : BlockFault d block fault rest

-- pages from a number on may change, and nothing else
pub record FillsPages (old : Device) (number : ℕ) (new : Device) : Type 0 where
  pub earlier : (p : ℕ) → p < number → new.pages p ≡ old.pages p
  pub others : new ≡ record old { pages = new.pages }

-- blocks from a number on may change, and nothing else
pub record FillsBlocks (old : Device) (block : ℕ) (new : Device) : Type 0 where
  pub earlier : (p : ℕ) → p < block * old.geometry.pages → new.pages p ≡ old.pages p
  pub worn : (b : ℕ) → b < block → new.worn b ≡ old.worn b
  pub others : new ≡ record old { pages = new.pages; worn = new.worn }
