-- Flashes on which scripts are run: new ones, formatted, and those that bytes spell.
use Rattle.std.specs.Prelude.{◌≡◌, ◌≢◌, ℕ, ◌≤◌, List, []}
use Rattle.fs_types.specs.declared.fault.Fault.{Fault}
use Rattle.fs_types.specs.declared.fault.Fault.TheVariants.{NoAnchors, FlashFull, ReadFailed, PowerCut}
use Rattle.fs_types.specs.declared.limits.TheConstants.{MIN_VERSIONS, MAX_VERSIONS}
use Rattle.flash_model.specs.Geometry.{IsGeometry}
use Rattle.flash_model.specs.Plan.{plan_of_entries}
use Rattle.flash_simulation.specs.Simulation.{device_of, plan_of, IsNew}
use Rattle.flash_simulation.specs.declared.sim_flash.SimFlash.{SimFlash}
use Rattle.flash_model.specs.declared.geometry.Geometry.{Geometry}
use Rattle.flash_simulation.specs.Images.{image_of, IsFresh}
use Rattle.mounting.specs.Formats.{IsFormatted, ListsFailed, IsNumbered, FormatCause}
use Rattle.script_runs.specs.Plans.{FollowsPlan, IsCalm}

-- a new flash of these sizes, for which no fault is planned
pub record IsNewFlash (sizes : Geometry) (flash : SimFlash) : Type 0 where
  pub new : IsNew sizes (device_of flash)
  pub plan : plan_of flash ≡ plan_of_entries []

-- a flash is formatted: it keeps its sizes, and holds an empty file system that keeps so many versions. The newest record lists
-- the blocks in which an operation failed, and is numbered after those that were left
pub record IsFormatOf (limit : ℕ) (start end : SimFlash) : Type 0 where
  pub formatted : IsFormatted limit (device_of end)
  pub sizes : (device_of end).geometry ≡ (device_of start).geometry
  pub listed : ListsFailed (device_of start) (device_of end)
  pub numbered : IsNumbered (device_of start) (device_of end)

-- sizes and a limit that a format takes
pub record AreLawful (sizes : Geometry) (limit : ℕ) : Type 0 where
  pub geometry : IsGeometry sizes
  pub least : MIN_VERSIONS ≤ limit
  pub most : limit ≤ MAX_VERSIONS

-- a new flash of lawful sizes that was formatted for a lawful limit
abbrev pub IsMade : Geometry → ℕ → SimFlash → Type 0
IsMade sizes limit flash = (start : SimFlash) × AreLawful sizes limit × IsNewFlash sizes start × IsFormatOf limit start flash

-- the flash that bytes spell, with its power on and no fault planned
pub record IsDecoded (bytes : List ℕ) (flash : SimFlash) : Type 0 where
  pub spelled : bytes ≡ image_of (device_of flash)
  pub ready : IsFresh (device_of flash)
  pub plan : plan_of flash ≡ plan_of_entries []

-- a format of a flash is refused for a cause, and its plan went on by what was done till then
abbrev pub IsUnformatted : ℕ → SimFlash → SimFlash → Fault → Type 0
IsUnformatted limit start end fault = FormatCause (device_of start) limit fault (device_of end) × FollowsPlan start end

-- where no fault is planned, no operation fails: a format is refused neither for a failed read or want of power, nor since no
-- anchor or no block works
abbrev pub CalmFormatLaw : Type 0
CalmFormatLaw = (limit : ℕ) (start end : SimFlash) (fault : Fault) → IsCalm (device_of start) (plan_of start) → IsGeometry (device_of start).geometry
    → IsUnformatted limit start end fault → (fault ≢ ReadFailed) × (fault ≢ PowerCut) × (fault ≢ NoAnchors) × (fault ≢ FlashFull)
