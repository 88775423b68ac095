-- The limits of a flash's sizes.
use Rattle.std.specs.Prelude.{ℕ, ◌*◌, ◌≤◌, Bool, ◌||◌, ◌==◌, IsTrue}
use Rattle.fs_types.specs.declared.limits.TheConstants.{MIN_BLOCK_BYTES}
use Rattle.flash_model.specs.declared.geometry.Geometry.{Geometry}

-- the sizes of a page that are served
abbrev pub is_page_size : ℕ → Bool
is_page_size n = (n == 256) || (n == 512) || (n == 1024) || (n == 2048) || (n == 4096)

-- the bytes of a block
abbrev pub block_bytes : Geometry → ℕ
block_bytes g = g.pages * g.page

-- the number of pages of the whole flash
abbrev pub page_count : Geometry → ℕ
page_count g = g.blocks * g.pages

-- sizes within the limits
pub record IsGeometry (g : Geometry) : Type 0 where
  pub page_size : IsTrue (is_page_size g.page)
  pub some_pages : 1 ≤ g.pages
  pub block_least : MIN_BLOCK_BYTES ≤ block_bytes g
  pub block_most : block_bytes g ≤ 262144
  pub blocks_least : 16 ≤ g.blocks
  pub blocks_most : g.blocks ≤ 65536
  pub bytes_most : g.blocks * block_bytes g ≤ 67108864
