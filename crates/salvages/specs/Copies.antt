-- A flash in memory that gets the data pages of another one.
use Rattle.std.specs.Prelude.{◌≡◌, ℕ, ◌<◌, ◌≤◌, true, false, []}
use Rattle.fs_types.specs.declared.limits.TheConstants.{ANCHORS}
use Rattle.flash_model.specs.declared.geometry.Geometry.{Geometry}
use Rattle.flash_simulation.specs.declared.sim_flash.SimFlash.{SimFlash}
use Rattle.flash_model.specs.Geometry.{page_count}
use Rattle.flash_model.specs.Device.{Device, erased, block_of}
use Rattle.flash_model.specs.Plan.{plan_of_entries}
use Rattle.flash_simulation.specs.Simulation.{device_of, plan_of}

-- a flash in memory of these sizes on which power is on, no block is worn and no fault is planned; nothing was asked of it
pub record IsSure (sizes : Geometry) (flash : SimFlash) : Type 0 where
  pub geometry : (device_of flash).geometry ≡ sizes
  pub powered : (device_of flash).powered ≡ true
  pub worn : (b : ℕ) → (device_of flash).worn b ≡ false
  pub plan : plan_of flash ≡ plan_of_entries []

-- each page of a data block of the first flash is on the second what it is there
abbrev pub HasDataOf : Device → Device → Type 0
HasDataOf old new = (p : ℕ) → ANCHORS ≤ block_of old p → p < page_count old.geometry → new.pages p ≡ old.pages p

-- the pages of the anchors are erased
abbrev pub AreAnchorsErased : Device → Type 0
AreAnchorsErased d = (p : ℕ) → block_of d p < ANCHORS → d.pages p ≡ erased

-- nothing but the pages may be another
abbrev pub HasPagesOnly : Device → Device → Type 0
HasPagesOnly old new = new ≡ record old { pages = new.pages }
