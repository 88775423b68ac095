-- The newest record of a flash, and why it may not be told.
use Rattle.std.specs.Prelude.{◌≡◌, ◌⊎◌, ℕ, ◌/◌, ◌<◌, true, false, Option, Some, None, Result, Ok, Err}
use Rattle.std.specs.Option.{option_map}
use Rattle.fs_types.specs.declared.fault.Fault.{Fault}
use Rattle.fs_types.specs.declared.fault.Fault.TheVariants.{ReadFailed, PowerCut, NoMemory, Damaged, BadGeometry}
use Rattle.flash_model.specs.Device.{Device}
use Rattle.record_format.specs.declared.record.Record.{Record}
use Rattle.record_format.specs.Payloads.{payload_at, WantsMemory}
use Rattle.anchors.specs.declared.best.Found.{Found}
use Rattle.anchors.specs.declared.anchors.Anchors.{Anchors}
use Rattle.anchors.specs.Parts.{RecordBytes, parts_on, newest_on}
use Rattle.anchors.specs.Reading.{IsEnd}
use Rattle.anchors.specs.Laws.{HasNone, HasTie}

-- the place that is remembered
abbrev pub remembered : Anchors → Option Found
remembered anchors = anchors.newest

-- the anchor that was erased ahead
abbrev pub prepared_anchor : Anchors → Option ℕ
prepared_anchor anchors = anchors.prepared

-- the anchors were cleared, and no record was committed since
abbrev pub IsCleared : Anchors → Type 0
IsCleared anchors = anchors.cleared ≡ true

-- they were not, since they were made or read
abbrev pub IsUncleared : Anchors → Type 0
IsUncleared anchors = anchors.cleared ≡ false

-- on the anchor of the newest record the place is known that all pages from it on are erased, and the one before it is not
abbrev pub KnowsEnd : Device → Anchors → Type 0
KnowsEnd d anchors = (found : Found) → anchors.newest ≡ Some found → IsEnd d.geometry d.pages (found.page / d.geometry.pages) d.geometry.pages anchors.end

-- what the payload of the newest record means, where there is a newest record
abbrev pub committed_on : Device → Option (Result Record Fault)
committed_on d = option_map (λ entry. payload_at d.geometry entry.sequence entry.payload) (newest_on d.geometry d.pages)

-- the newest record, or none where no record is valid
abbrev pub IsNewestRecord : Device → Option Record → Type 0
IsNewestRecord d None = HasNone d.geometry (parts_on d.geometry d.pages)
IsNewestRecord d (Some newest) = committed_on d ≡ Some (Ok newest)

-- there is a newest record, and memory is wanted for what is on the lists of its payload
abbrev pub WantsMemoryOn : Device → Type 0
WantsMemoryOn d = (entry : RecordBytes) × (newest_on d.geometry d.pages ≡ Some entry) × WantsMemory d.geometry entry.payload

-- why a record that is there is not told: two share the greatest sequence, or the payload of the newest means none.
-- Memory is wanted for what is on the lists of a newest record alone
abbrev pub RecordCause : Device → Device → Fault → Type 0
RecordCause old new Damaged = HasTie old.geometry (parts_on old.geometry old.pages) ⊎ (committed_on old ≡ Some (Err Damaged))
RecordCause old new BadGeometry = committed_on old ≡ Some (Err BadGeometry)
RecordCause old new ReadFailed = old.failed_reads < new.failed_reads
RecordCause old new PowerCut = new.powered ≡ false
RecordCause old new NoMemory = WantsMemoryOn old
RecordCause old new _ = ⊥

-- the same where memory is also wanted before anything is asked of the device
abbrev pub NewestCause : Device → Device → Fault → Type 0
NewestCause old new NoMemory = (new ≡ old) ⊎ RecordCause old new NoMemory
NewestCause old new fault = RecordCause old new fault
