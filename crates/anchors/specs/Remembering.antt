-- What is remembered of the anchors from call to call, and what a commit makes of it.
use Rattle.std.specs.Prelude.{◌≡◌, ◌≢◌, ◌⊎◌, ℕ, ◌+◌, ◌*◌, ◌/◌, ◌-◌, ◌^◌, ◌<◌, ◌≤◌, true, false, Option, Some, None, Result, Err, IsErr}
use Rattle.std.specs.FinSet as set
use Rattle.std.specs.Ordering.{nat_cmp}
use Rattle.fs_types.specs.declared.fault.Fault.{Fault}
use Rattle.fs_types.specs.declared.fault.Fault.TheVariants.{ReadOnly, Overflow, ReadFailed, PowerCut, NoMemory}
use Rattle.fs_types.specs.declared.limits.TheConstants.{ANCHORS}
use Rattle.flash_model.specs.declared.geometry.Geometry.{Geometry}
use Rattle.flash_model.specs.Device.{Device}
use Rattle.bad_blocks.specs.Mode.{is_read_only}
use Rattle.record_format.specs.declared.record.Record.{Record}
use Rattle.anchors.specs.declared.best.Found.{Found}
use Rattle.anchors.specs.declared.anchors.Anchors.{Anchors}
use Rattle.anchors.specs.Parts.{parts_on, newest_at, greatest_on}
use Rattle.anchors.specs.Reading.{IsEnd}
use Rattle.anchors.specs.Anchored.{AreErased, Asked}
use Rattle.anchors.specs.Drafts.{IsBlankFrom}
use Rattle.anchors.specs.Newest.{remembered, prepared_anchor, IsCleared, IsUncleared}
use Rattle.anchors.specs.Committing.{IsLowest, GoesTo}

-- the anchor that was erased ahead is not the one that a record is on, and it is erased while it is not bad
abbrev pub IsErasedBeside : Device → set.FinSet nat_cmp → Anchors → Found → Type 0
IsErasedBeside d bad anchors found =
    (anchor : ℕ) → prepared_anchor anchors ≡ Some anchor → (anchor ≢ found.page / d.geometry.pages) × IsBlankFrom d.geometry d.pages bad anchor 0

-- the place of the newest record is remembered, and, while its anchor is not bad, where that ends; and the anchor that was erased ahead, if one was
pub record KnowsNewest (d : Device) (bad : set.FinSet nat_cmp) (anchors : Anchors) : Type 0 where
  pub found : Found
  pub here : remembered anchors ≡ Some found
  pub place : newest_at d.geometry (parts_on d.geometry d.pages) ≡ Some found
  pub end : set.contains bad (found.page / d.geometry.pages) ≡ false → IsEnd d.geometry d.pages (found.page / d.geometry.pages) d.geometry.pages anchors.end
  pub prepared : IsErasedBeside d bad anchors found

-- no record was committed since the anchors were cleared: those that are not bad are erased, and none ahead
pub record KnowsErased (d : Device) (bad : set.FinSet nat_cmp) (anchors : Anchors) : Type 0 where
  pub none : remembered anchors ≡ None
  pub cleared : IsCleared anchors
  pub unprepared : prepared_anchor anchors ≡ None
  pub erased : AreErased d bad ANCHORS

-- a commit may follow
abbrev pub MayCommit : Device → set.FinSet nat_cmp → Anchors → Type 0
MayCommit d bad anchors = KnowsNewest d bad anchors ⊎ KnowsErased d bad anchors

-- a commit begins at the end of the newest record's anchor, or, after the anchors were cleared, on the first page of the lowest that is not bad
abbrev pub begins_from : Geometry → set.FinSet nat_cmp → ℕ → Option Found → ℕ → ℕ → Type 0
begins_from g bad end None home place = IsLowest bad home × (place ≡ 0)
begins_from g bad end (Some found) home place = (home ≡ found.page / g.pages) × (place ≡ end)

abbrev pub BeginsAt : Geometry → set.FinSet nat_cmp → Anchors → ℕ → ℕ → Type 0
BeginsAt g bad anchors home place = begins_from g bad anchors.end anchors.newest home place

-- a commit reads no anchor: the place of the newest record is known, or no anchor is bad
abbrev pub ReadsNone : set.FinSet nat_cmp → Anchors → Type 0
ReadsNone bad anchors = (remembered anchors ≢ None) ⊎ ((b : ℕ) → b < ANCHORS → set.contains bad b ≡ false)

-- after a commit the place of its record is remembered, the anchors count as cleared no more, and read-only mode is not on
pub record Remembers (anchors : Anchors) (bad : set.FinSet nat_cmp) : Type 0 where
  pub known : remembered anchors ≢ None
  pub uncleared : IsUncleared anchors
  pub writable : is_read_only bad ≡ false

-- the newest record is where a commit from there puts it. After so many reads a program of each of its pages was asked for, and an erase only where it is not on the anchor on which the commit began
pub record IsPlaced (old : Device) (was : set.FinSet nat_cmp) (anchors : Anchors) (r : Record) (reads : ℕ) (new : Device) (now : set.FinSet nat_cmp) : Type 0 where
  pub home : ℕ
  pub place : ℕ
  pub found : Found
  pub begins_at : BeginsAt old.geometry was anchors home place
  pub newest : newest_at new.geometry (parts_on new.geometry new.pages) ≡ Some found
  pub goes : GoesTo r was now home place found.page
  pub begun : found.page / old.geometry.pages ≡ home → Asked old new (reads + found.head.count)
  pub elsewhere : found.page / old.geometry.pages ≢ home → Asked old new (reads + (1 + found.head.count))

-- whatever is answered, each page of the anchors was read once at most, and none where a commit reads none; and then each anchor
-- was tried once at most, by an erase and its pages
pub record TriesEach (old : Device) (was : set.FinSet nat_cmp) (anchors : Anchors) (new : Device) : Type 0 where
  pub reads : ℕ
  pub none : ReadsNone was anchors → reads ≡ 0
  pub once : reads ≤ ANCHORS * old.geometry.pages
  pub most : new.operations ≤ old.operations + reads + ANCHORS * (old.geometry.pages + 1)

-- what a commit leaves where no sequence is left: nothing is written. Where the place of the newest record is known that is told before all else but read-only mode
pub record RefusesLast (old : Device) (was : set.FinSet nat_cmp) (anchors : Anchors) (new : Device) (now : set.FinSet nat_cmp) (result : Result (Unit {0}) Fault) : Type 0 where
  pub refused : IsErr result
  pub pages : new.pages ≡ old.pages
  pub list : now ≡ was
  pub known : remembered anchors ≢ None → is_read_only was ≡ false → (result ≡ Err Overflow) × (new ≡ old)

-- why a commit is refused. All but the first come only where the list was short enough on entry; of the others power alone may go once something was written
abbrev pub CommitCause : Device → set.FinSet nat_cmp → Anchors → Device → set.FinSet nat_cmp → Fault → Type 0
CommitCause old was anchors new now ReadOnly = is_read_only now ≡ true
CommitCause old was anchors new now PowerCut = new.powered ≡ false
CommitCause old was anchors new now Overflow = (greatest_on old.geometry old.pages ≡ 2 ^ 64 - 1) × (new.pages ≡ old.pages) × (now ≡ was)
CommitCause old was anchors new now ReadFailed = (remembered anchors ≡ None) × (old.failed_reads < new.failed_reads) × (new.pages ≡ old.pages) × (now ≡ was)
CommitCause old was anchors new now NoMemory = (new ≡ old) × (now ≡ was)
CommitCause old was anchors new now _ = ⊥
