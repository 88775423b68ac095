-- The blocks and pages that a checklist may use up.
use Rattle.std.specs.Prelude.{ℕ, ◌+◌, ◌*◌, ◌<◌, ◌≤◌}
use Rattle.flash_model.specs.declared.geometry.Geometry.{Geometry}
use Rattle.flash_model.specs.Geometry.{page_count}
use Rattle.driver_checks.specs.declared.area.Area.{Area}

-- there are three blocks or more, and the flash has them
pub record HasAreaBlocks (sizes : Geometry) (first count : ℕ) : Type 0 where
  pub enough : 3 ≤ count
  pub in_flash : first + count ≤ sizes.blocks

-- a block that may be used up
pub record GivesBlock (g : Area) (b : ℕ) : Type 0 where
  pub from : g.first ≤ b
  pub below : b < g.first + g.count

-- the page at a place of a block
abbrev pub area_page : Area → ℕ → ℕ → ℕ
area_page g b place = b * g.sizes.pages + place

-- a page of a block that may be used up
pub record GivesPage (g : Area) (p : ℕ) : Type 0 where
  pub from : g.first * g.sizes.pages ≤ p
  pub below : p < (g.first + g.count) * g.sizes.pages
  pub in_flash : p < page_count g.sizes
