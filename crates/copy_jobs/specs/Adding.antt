-- A copy with one version more.
use Rattle.std.specs.Prelude.{◌≡◌, ◌≢◌, ◌⊎◌, ℕ, Option, Some, None}
use Rattle.fs_types.specs.declared.fault.Fault.{Fault}
use Rattle.flash_model.specs.Device.{Device}
use Rattle.flash_simulation.specs.Simulation.{device_of}
use Rattle.flash_simulation.specs.declared.sim_flash.SimFlash.{SimFlash}
use Rattle.history_machine.specs.History.{Past}
use Rattle.plain_trees.specs.Trees.{Tree}
use Rattle.mounting.specs.Saved.{saved_trees}
use Rattle.copies.specs.Added.{AddCause, HasOneMore, HoldsAlone}
use Rattle.copies.specs.declared.uncopied.Uncopied.{Uncopied}
use Rattle.image_jobs.specs.declared.failure.Failure.{Failure}
use Rattle.copy_jobs.specs.Failures.{of_uncopied}

-- the tree of the one version of a flash is one more in the history of a copy, and the present one
abbrev pub AddsOne : SimFlash → SimFlash → SimFlash → Type 0
AddsOne copy one more = (limit : ℕ) (t : Tree) (old : Past Tree) → HoldsAlone limit t (device_of one) → saved_trees (device_of copy) ≡ Some old → HasOneMore old t (device_of more)

-- a copy with that version has the sizes that it had
pub record HasOneAfter (copy one more : SimFlash) : Type 0 where
  pub adds : AddsOne copy one more
  pub sizes : (device_of more).geometry ≡ (device_of copy).geometry

-- it has one more where there is one
abbrev pub HasRestAfter : SimFlash → Option SimFlash → SimFlash → Type 0
HasRestAfter copy None more = more ≡ copy
HasRestAfter copy (Some one) more = HasOneAfter copy one more

-- it has other sizes then
pub record ResizesAdding (copy one : SimFlash) (failure : Failure) : Type 0 where
  pub more : SimFlash
  pub adds : AddsOne copy one more
  pub others : (device_of more).geometry ≢ (device_of copy).geometry
  pub cause : failure ≡ Failure.System Fault.BadGeometry

-- why a copy gets no version more: the adding stops, or changes its sizes
abbrev pub StopsAdding : SimFlash → SimFlash → Failure → Type 0
StopsAdding copy one failure = ((left : Device) × (other : Device) × (why : Uncopied) × AddCause (device_of one) (device_of copy) left other why × (failure ≡ of_uncopied why)) ⊎ ResizesAdding copy one failure
