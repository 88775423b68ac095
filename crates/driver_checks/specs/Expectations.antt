-- What pages are to show.
use Rattle.std.specs.Prelude.{◌≡◌, ◌⊎◌, ℕ, ◌<◌, ◌≤◌}
use Rattle.flash_model.specs.Device.{Page, erased, unreadable}
use Rattle.driver_checks.specs.declared.area.Area.{Area}
use Rattle.driver_checks.specs.declared.expected.Expected.{Expected}
use Rattle.driver_checks.specs.declared.expected.Expected.TheVariants.{Erased, Filled, Spoilt, Left}
use Rattle.driver_checks.specs.Areas.{area_page}
use Rattle.driver_checks.specs.Patterns.{Holds}

-- a page of so many bytes shows what is expected
abbrev pub MeetsExpectation : Expected → ℕ → ℕ → Page → Type 0
MeetsExpectation Erased size page held = held ≡ erased
MeetsExpectation (Filled round) size page held = Holds size page round held
MeetsExpectation Spoilt size page held = held ≡ unreadable
MeetsExpectation (Left round) size page held = (held ≡ erased) ⊎ ((held ≡ unreadable) ⊎ Holds size page round held)

-- a page of the area shows it
abbrev pub PageMeets : Expected → Area → (ℕ → Page) → ℕ → Type 0
PageMeets expected g pages p = MeetsExpectation expected g.sizes.page p (pages p)

-- the pages of a block show it, from one place to before another
pub record BlockMeets (expected : Expected) (g : Area) (pages : ℕ → Page) (b from to : ℕ) : Type 0 where
  pub each : (place : ℕ) → from ≤ place → place < to → PageMeets expected g pages (area_page g b place)
