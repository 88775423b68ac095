-- What is saved of a damaged flash, and why nothing is.
use Rattle.std.specs.Prelude.{◌≡◌, ◌⊎◌, ℕ, ◌<◌, false, List, Some, None, Ok, Err, All}
use Rattle.fs_types.specs.declared.fault.Fault.{Fault}
use Rattle.fs_types.specs.declared.fault.Fault.TheVariants.{BadGeometry, NoRecord, Damaged, ReadFailed, PowerCut, NoMemory}
use Rattle.flash_model.specs.Device.{Device}
use Rattle.flash_model.specs.Geometry.{IsGeometry}
use Rattle.flash_simulation.specs.Simulation.{device_of}
use Rattle.record_format.specs.declared.record.Record.{Record}
use Rattle.anchors.specs.Laws.{HasNone, HasTie}
use Rattle.anchors.specs.Newest.{committed_on}
use Rattle.anchors.specs.Parts.{parts_on}
use Rattle.mounting.specs.Records.{knows_plain_only, trees_of}
use Rattle.mounting.specs.Saved.{saved_trees, IsWholeRecord}
use Rattle.salvages.specs.Copies.{IsSure, HasDataOf}
use Rattle.salvages.specs.Kept.{roots_in, kept_record, lost_serials, lost_names}
use Rattle.salvages.specs.Wholes.{IsWhole, AreLost}
use Rattle.salvages.specs.declared.salvaged.Salvaged.{Salvaged}

-- the newest record of the saved flash is what is kept of the newest one of the damaged flash, where exactly the roots
-- that are not whole are lost. Each root that is kept has the tree that it has there, of linked bodies; the lost versions
-- and checkpoints are named; and the saved flash fails nothing
pub record IsSalvageOf (old : Device) (made : Salvaged) : Type 0 where
  pub newest : Record
  pub holds : committed_on old ≡ Some (Ok newest)
  pub lost : List ℕ
  pub are_lost : AreLost (knows_plain_only newest) old (roots_in newest) lost
  pub saved : committed_on (device_of made.flash) ≡ Some (Ok (kept_record lost newest))
  pub trees : saved_trees (device_of made.flash) ≡ Some (trees_of old (kept_record lost newest))
  pub whole : IsWholeRecord (device_of made.flash)
  pub versions : made.lost_versions.items ≡ lost_serials lost newest.versions
  pub checkpoints : made.lost_checkpoints.items ≡ lost_names lost newest.checkpoints
  pub sure : IsSure old.geometry made.flash
  pub pages : HasDataOf old (device_of made.flash)

-- no version of the newest record is whole
pub record HasNoneWhole (d : Device) : Type 0 where
  pub newest : Record
  pub holds : committed_on d ≡ Some (Ok newest)
  pub none : All (λ version. IsWhole (knows_plain_only newest) d version.root → ⊥) newest.versions

-- why nothing is saved: as a mount tells it where there is no sound record, which takes no older one; no version is whole; a read
-- failed; power is off; memory was wanted
abbrev pub SalvageCause : Device → Device → Fault → Type 0
SalvageCause old new BadGeometry = ((IsGeometry old.geometry → ⊥) × (new ≡ old)) ⊎ (committed_on old ≡ Some (Err BadGeometry))
SalvageCause old new NoRecord = HasNone old.geometry (parts_on old.geometry old.pages) × (committed_on old ≡ None)
SalvageCause old new Damaged =
    HasTie old.geometry (parts_on old.geometry old.pages) ⊎ ((committed_on old ≡ Some (Err Damaged)) ⊎ HasNoneWhole old)
SalvageCause old new ReadFailed = old.failed_reads < new.failed_reads
SalvageCause old new PowerCut = new.powered ≡ false
SalvageCause old new NoMemory = Unit {0}
SalvageCause old new _ = ⊥
