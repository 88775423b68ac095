-- What a format leaves of a flash, and why it is refused.
use Rattle.std.specs.Prelude.{◌≡◌, ◌⊎◌, ℕ, ◌+◌, ◌-◌, ◌*◌, ◌^◌, ◌<◌, ◌≤◌, true, false, Some, [], Contains}
use Rattle.std.specs.Option.{option_map}
use Rattle.std.specs.FinSet as set
use Rattle.std.specs.Ordering.{nat_cmp}
use Rattle.history_machine.specs.History.{fresh}
use Rattle.plain_trees.specs.Trees.{bare}
use Rattle.fs_types.specs.declared.limits.TheConstants.{ANCHORS, MAX_BAD_BLOCKS, MAX_VERSIONS, MIN_VERSIONS}
use Rattle.fs_types.specs.declared.fault.Fault.{Fault}
use Rattle.fs_types.specs.declared.fault.Fault.TheVariants.{BadGeometry, Invalid, NoAnchors, FlashFull, ReadOnly, Overflow, ReadFailed, PowerCut, NoMemory}
use Rattle.flash_model.specs.Device.{Device}
use Rattle.flash_model.specs.Geometry.{IsGeometry}
use Rattle.block_ring.specs.Ring.{IsDataBlock}
use Rattle.bad_blocks.specs.Mode.{bad_anchors, is_read_only}
use Rattle.record_format.specs.declared.formats.TheConstants.{FORMAT}
use Rattle.record_format.specs.declared.record.Record.{Record}
use Rattle.anchors.specs.Anchored.{OnlyAnchors, Fades, AreErased}
use Rattle.anchors.specs.Committing.{IsLowest}
use Rattle.anchors.specs.Parts.{parts_on, newest_at, greatest_on}
use Rattle.node_format.specs.Links.{chain_bytes}
use Rattle.node_store.specs.NodePages.{node_of}
use Rattle.working_state.specs.Fresh.{IsFirstGood, HasGrown, GrowsByData}
use Rattle.mounting.specs.Records.{history_of, roots_of, trees_of, HasTrees}
use Rattle.mounting.specs.Saved.{saved_on}

-- the newest record begins on the first page of the lowest anchor that is not in this list of bad blocks
abbrev pub BeginsOnLowest : Device → set.FinSet nat_cmp → Type 0
BeginsOnLowest d bad = (anchor : ℕ) × IsLowest bad anchor × (option_map (λ found. found.page) (newest_at d.geometry (parts_on d.geometry d.pages)) ≡ Some (anchor * d.geometry.pages))

-- the root of a new system is one node of a chain, without entries, in the first data block that the record does not list as
-- bad, and that is the block that was taken last
pub record IsFirstRoot (d : Device) (newest : Record) (root : ℕ) : Type 0 where
  pub node : node_of d root ≡ Some (chain_bytes 0 [])
  pub block : IsFirstGood (set.from_list newest.bad) root
  pub last : newest.last ≡ root

-- the newest record, of the format that is written, holds one version, of serial 1, with an empty root, of at most `limit` kept
-- ones, and no checkpoint. Read-only mode is off: two anchors work at least
pub record IsFormatted (limit : ℕ) (d : Device) : Type 0 where
  pub lawful : IsGeometry d.geometry
  pub newest : Record
  pub saved : saved_on d ≡ Some newest
  pub place : BeginsOnLowest d (set.from_list newest.bad)
  pub format : newest.format ≡ FORMAT
  pub history : trees_of d newest ≡ fresh limit bare
  pub trees : HasTrees d newest
  pub first_root : (root : ℕ) → Contains (roots_of (history_of newest)) root → IsFirstRoot d newest root
  pub writable : is_read_only (set.from_list newest.bad) ≡ false

-- these are the blocks in which an operation failed since, each of which is worn
pub record HaveFailed (given : Device) (bad : set.FinSet nat_cmp) (left : Device) : Type 0 where
  pub failures : left.failures ≡ given.failures + set.len bad
  pub worn : (b : ℕ) → set.contains bad b ≡ true → left.worn b ≡ true

-- the bad blocks that the newest record lists are those in which an operation failed since
abbrev pub ListsFailed : Device → Device → Type 0
ListsFailed given d = (r : Record) → saved_on d ≡ Some r → HaveFailed given (set.from_list r.bad) d

-- the anchors were erased: these failed, the others hold nothing, and no page has bytes that it had not
pub record AreCleared (given : Device) (bad : set.FinSet nat_cmp) (cleared : Device) : Type 0 where
  pub only_anchors : OnlyAnchors given set.empty cleared bad
  pub erased : AreErased cleared bad ANCHORS
  pub fades : Fades given.pages cleared.pages

-- the anchors were erased first. The newest record lists those that failed, and its sequence is one more than the greatest of a
-- valid record that was left on them, or 1
pub record IsNumbered (given d : Device) : Type 0 where
  pub bad : set.FinSet nat_cmp
  pub cleared : Device
  pub clears : AreCleared given bad cleared
  pub listed : (r : Record) → saved_on d ≡ Some r → (b : ℕ) → set.contains bad b ≡ true → set.contains {R = nat_cmp} (set.from_list r.bad) b ≡ true
  pub sequence : (r : Record) → saved_on d ≡ Some r → r.sequence ≡ greatest_on cleared.geometry cleared.pages + 1

-- an operation failed in seven anchors
abbrev pub LacksAnchors : Device → Device → Type 0
LacksAnchors given left = (bad : set.FinSet nat_cmp) × HaveFailed given bad left × (7 ≤ bad_anchors bad)

-- an operation failed in every data block, or in as many blocks as the bad list has room for, but not in seven anchors
abbrev pub LacksBlocks : Device → Device → Type 0
LacksBlocks given left = (bad : set.FinSet nat_cmp) × HaveFailed given bad left × (bad_anchors bad < 7)
    × (((b : ℕ) → IsDataBlock given.geometry.blocks b → set.contains bad b ≡ true) ⊎ (set.len bad ≡ MAX_BAD_BLOCKS))

-- why a flash is not formatted: its sizes; the limit of kept versions; fewer than two anchors work; no data block works, or
-- the bad list is full; no sequence is left; a read failed; the device is off; memory was wanted
abbrev pub FormatCause : Device → ℕ → Fault → Device → Type 0
FormatCause given limit BadGeometry left = (IsGeometry given.geometry → ⊥) × (left ≡ given)
FormatCause given limit Invalid left = ((limit < MIN_VERSIONS) ⊎ (MAX_VERSIONS < limit)) × (left ≡ given)
FormatCause given limit NoAnchors left = LacksAnchors given left
FormatCause given limit FlashFull left = LacksBlocks given left
FormatCause given limit Overflow left = greatest_on left.geometry left.pages ≡ 2 ^ 64 - 1
FormatCause given limit ReadFailed left = given.failed_reads < left.failed_reads
FormatCause given limit PowerCut left = left.powered ≡ false
FormatCause given limit NoMemory left = Unit {0}
FormatCause given limit _ left = ⊥

-- The parts of a format.

-- why nothing is written in read-only mode: seven anchors are bad, or else as many blocks as the list has
abbrev pub ModeCause : set.FinSet nat_cmp → Fault → Type 0
ModeCause bad NoAnchors = 7 ≤ bad_anchors bad
ModeCause bad FlashFull = (set.len bad ≡ MAX_BAD_BLOCKS) × (bad_anchors bad < 7)
ModeCause bad _ = ⊥

-- why the anchors are not cleared
abbrev pub ClearCause : Device → Fault → Device → Type 0
ClearCause given NoAnchors left = LacksAnchors given left
ClearCause given PowerCut left = left.powered ≡ false
ClearCause given _ left = ⊥

-- a format tells a full bad list as a full flash
abbrev pub full_for : Fault → Fault
full_for ReadOnly = FlashFull
full_for fault = fault

-- why the first root is not written, on a flash of which some anchors are bad
abbrev pub FirstRootCause : Device → set.FinSet nat_cmp → Fault → Device → Type 0
FirstRootCause given was FlashFull left = (bad : set.FinSet nat_cmp) × HasGrown given was left bad × GrowsByData given was bad
    × (((b : ℕ) → IsDataBlock given.geometry.blocks b → set.contains bad b ≡ true) ⊎ (set.len bad ≡ MAX_BAD_BLOCKS))
FirstRootCause given was PowerCut left = left.powered ≡ false
FirstRootCause given was NoMemory left = Unit {0}
FirstRootCause given was _ left = ⊥

-- why the first record is not committed, with the list as it is left
abbrev pub FirstRecordCause : Device → Fault → Device → set.FinSet nat_cmp → Type 0
FirstRecordCause given NoAnchors left bad = 7 ≤ bad_anchors bad
FirstRecordCause given FlashFull left bad = (set.len bad ≡ MAX_BAD_BLOCKS) × (bad_anchors bad < 7)
FirstRecordCause given Overflow left bad = greatest_on left.geometry left.pages ≡ 2 ^ 64 - 1
FirstRecordCause given ReadFailed left bad = given.failed_reads < left.failed_reads
FirstRecordCause given PowerCut left bad = left.powered ≡ false
FirstRecordCause given NoMemory left bad = Unit {0}
FirstRecordCause given _ left bad = ⊥
