-- What three blocks are to show.
use Rattle.std.specs.Prelude.{ℕ, ◌+◌, ◌-◌}
use Rattle.flash_model.specs.Device.{Page}
use Rattle.driver_checks.specs.declared.area.Area.{Area}
use Rattle.driver_checks.specs.declared.scene.Place.{Place}
use Rattle.driver_checks.specs.declared.scene.Place.TheVariants.{First, Last}
use Rattle.driver_checks.specs.declared.scene.Scene.{Scene}
use Rattle.driver_checks.specs.Areas.{area_page}
use Rattle.driver_checks.specs.Expectations.{PageMeets, BlockMeets}

-- the place of a page in a block
abbrev pub place_in : Place → Area → ℕ
place_in First g = 0
place_in Last g = g.sizes.pages - 1

-- the pages of a block show what the scene says: the page at its place, those before it and those after it
pub record IsOwnShown (scene : Scene) (g : Area) (own : ℕ) (pages : ℕ → Page) : Type 0 where
  pub page : PageMeets scene.page g pages (area_page g own (place_in scene.place g))
  pub before : BlockMeets scene.rest g pages own 0 (place_in scene.place g)
  pub after : BlockMeets scene.rest g pages own (place_in scene.place g + 1) g.sizes.pages

-- so do those of two others
pub record IsShown (scene : Scene) (g : Area) (lower own upper : ℕ) (pages : ℕ → Page) : Type 0 where
  pub own_block : IsOwnShown scene g own pages
  pub lower_side : BlockMeets scene.sides g pages lower 0 g.sizes.pages
  pub upper_side : BlockMeets scene.sides g pages upper 0 g.sizes.pages
