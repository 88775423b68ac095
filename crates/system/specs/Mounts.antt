-- What a mount makes of the newest record of a flash, what it asks of the device, and why it makes nothing of it.
use Rattle.std.specs.Prelude.{◌≡◌, ◌⊎◌, ℕ, ◌+◌, ◌*◌, ◌<◌, ◌≤◌, false, Some, Ok, List, None, Err}
use Rattle.std.specs.FinSet as set
use Rattle.fs_types.specs.declared.limits.TheConstants.{ANCHORS}
use Rattle.flash_model.specs.Device.{Device}
use Rattle.node_store.specs.NodePages.{node_of}
use Rattle.reclaim.specs.Passes.{AreReached}
use Rattle.record_format.specs.declared.record.Record.{Record}
use Rattle.anchors.specs.Parts.{parts_on}
use Rattle.anchors.specs.Newest.{committed_on, WantsMemoryOn}
use Rattle.mounting.specs.Records.{history_of, roots_of, HasTrees, IsLoaded}
use Rattle.fs_types.specs.declared.fault.Fault.{Fault}
use Rattle.fs_types.specs.declared.fault.Fault.TheVariants.{BadGeometry, NoRecord, Damaged, ReadFailed, PowerCut, NoMemory}
use Rattle.flash_model.specs.Geometry.{IsGeometry}
use Rattle.anchors.specs.Laws.{HasNone, HasTie}
use Rattle.anchors.specs.Remembering.{KnowsNewest}
use Rattle.system.specs.declared.systems.System.{System}
use Rattle.mounting.specs.Costs.{record_pages, verify_pages}

-- each page of the anchors, and those of the newest record once more
abbrev pub scan_pages : Device → ℕ
scan_pages d = ANCHORS * d.geometry.pages + record_pages d

-- the device was asked for the pages of the anchors and of the newest record, and for those of one verification of
-- what that record holds
pub record AsksToMount (old new : Device) : Type 0 where
  pub newest : Record
  pub holds : committed_on old ≡ Some (Ok newest)
  pub blocks : List ℕ
  pub are : AreReached (node_of old) (roots_of (history_of newest)) blocks
  pub most : new.operations ≤ old.operations + scan_pages old + verify_pages old blocks

-- a mount that was refused asked for the pages of the anchors and of the newest record at most, or for what one may
-- that is answered
abbrev pub AsksUntilRefused : Device → Device → Type 0
AsksUntilRefused old new = (new.operations ≤ old.operations + scan_pages old) ⊎ AsksToMount old new

-- a system is mounted with what the newest record holds, and that record's place is known, so that a commit may
-- follow. No block is prepared
pub record IsMountOf (old new : Device) (system : System) : Type 0 where
  pub newest : Record
  pub holds : committed_on old ≡ Some (Ok newest)
  pub loaded : IsLoaded new newest system.state
  pub remembers : KnowsNewest new system.state.storage.bad system.anchors
  pub pass : system.pass ≡ None
  pub cleaned_to : system.cleaned_to ≡ 0
  pub prepared : system.prepared ≡ record { blocks = new.geometry.blocks; members = set.empty }

-- the newest record is sound, but some version or checkpoint of it has no tree
abbrev pub LacksTrees : Device → Type 0
LacksTrees d = (newest : Record) × (committed_on d ≡ Some (Ok newest)) × (HasTrees d newest → ⊥)

-- why a mount is refused: the sizes are out of range, which is seen before any read, or the newest record tells
-- others; no record is valid; two have the greatest sequence, or what the newest holds is damaged; a read failed;
-- the device is off; memory was wanted, before anything was asked of the device or for what is on the lists of a
-- newest record
abbrev pub MountCause : Device → Device → Fault → Type 0
MountCause old new BadGeometry =
    ((IsGeometry old.geometry → ⊥) × (new ≡ old)) ⊎ (committed_on old ≡ Some (Err BadGeometry))
MountCause old new NoRecord = HasNone old.geometry (parts_on old.geometry old.pages) × (committed_on old ≡ None)
MountCause old new Damaged =
    HasTie old.geometry (parts_on old.geometry old.pages) ⊎ ((committed_on old ≡ Some (Err Damaged)) ⊎ LacksTrees old)
MountCause old new ReadFailed = old.failed_reads < new.failed_reads
MountCause old new PowerCut = new.powered ≡ false
MountCause old new NoMemory = (new ≡ old) ⊎ WantsMemoryOn old
MountCause old new _ = ⊥
