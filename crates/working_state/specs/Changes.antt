-- Changes: an edit of the tree that calls work on is written, and they work on its root then.
use Rattle.std.specs.Prelude.{◌≡◌, ◌⊎◌, ℕ, ◌+◌, ◌<◌, true, false, Option, Some, None, [], ◌∷◌, Result, Ok, Err, IfOk, IfErr}
use Rattle.std.specs.FinSet as set
use Rattle.history_machine.specs.History.{Past, working_root, history_with, group_with}
use Rattle.plain_trees.specs.Trees.{Tree}
use Rattle.fs_types.specs.declared.call.Group.{Group}
use Rattle.fs_types.specs.declared.fault.Fault.{Fault}
use Rattle.fs_types.specs.declared.fault.Fault.TheVariants.{FlashFull, ReadOnly, Overflow}
use Rattle.flash_model.specs.Device.{Device}
use Rattle.flash_model.specs.Geometry.{IsGeometry}
use Rattle.block_ring.specs.Ring.{free_count}
use Rattle.node_store.specs.declared.storage.Storage.{Storage}
use Rattle.node_store.specs.Fitting.{Fits}
use Rattle.node_store.specs.NodePages.{node_of}
use Rattle.nodes.specs.Reached.{Reached}
use Rattle.directory.specs.Trails.{IsChangeFault}
use Rattle.tree_edits.specs.declared.edits.Edit.{Edit}
use Rattle.tree_edits.specs.Edits.{IsEditable, source, effect, edit_need}
use Rattle.tree_edits.specs.Roots.{IsWrittenNode}
use Rattle.working_state.specs.Leaves.{HasWritten}
use Rattle.working_state.specs.Moments.{Moment}
use Rattle.working_state.specs.Mounted.{IsStanding}
use Rattle.working_state.specs.Seen.{capacity_of, tree_on, seen_of}
use Rattle.bad_blocks.specs.Mode.{is_read_only}
use Rattle.working_state.specs.Steps.{last_serial}
use Rattle.working_state.specs.Worked.{WorkCause}

-- nodes may be read and written: the sizes are lawful, the ring is of this flash, and what nodes are kept with fits
-- it
pub record IsReady (device : Device) (storage : Storage) : Type 0 where
  pub lawful : IsGeometry device.geometry
  pub ring_blocks : storage.ring.blocks ≡ device.geometry.blocks
  pub fits : Fits device storage

-- the edit of a root can be applied
abbrev pub CanApply : Device → Storage → ℕ → Edit → Type 0
CanApply device storage root edit =
    IsEditable (capacity_of device) (node_of device) (set.contains storage.ring.used) root edit

-- the tree that an edit makes of that of a root
abbrev pub edited_tree : Device → Edit → ℕ → Tree
edited_tree device edit root = effect (tree_on device) edit (tree_on device root)

-- why the nodes of an edit are not written, of which there is one at least: for what reads and writes are refused;
-- and where no block is free, those that were free were too few
pub record WorkRefuses (old : Device) (s : Storage) (edit : Edit) (fault : Fault) (new : Device) (t : Storage)
    : Type 0 where
  pub needs : 0 < edit_need (capacity_of old) (node_of old) edit
  pub kind : IsChangeFault fault
  pub why : WorkCause (seen_of old s) fault (seen_of new t)
  pub few_free : fault ≡ FlashFull
      → free_count s.ring s.bad + set.len s.bad < set.len t.bad + edit_need (capacity_of old) (node_of old) edit

-- what a root reaches was reached by another before, or was written in a block that was not used
abbrev pub ReachesFrom : Device → Storage → ℕ → Device → ℕ → Type 0
ReachesFrom old s from new to = (block : ℕ) → Reached (node_of new) (to ∷ []) block
    → Reached (node_of old) (from ∷ []) block ⊎ ((set.contains s.ring.used block ≡ false) × IsWrittenNode (node_of new block))

-- a flash, and what nodes are kept with on it
pub record StorageMoment : Type 0 where
  pub device : Device
  pub storage : Storage

abbrev pub storage_moment : Device → Storage → StorageMoment
storage_moment d s = record { device = d; storage = s }

-- an edit of the tree of a root was written, so many nodes at most: the new root stands, has the edited tree and
-- reaches what the source of the edit did, or what was written in blocks that were not used; or a read or write was
-- refused for its cause; where no node is needed, flash and storage are as they were
pub record IsTried (old : StorageMoment) (edit : Edit) (root : ℕ) (result : Result ℕ Fault) (new : StorageMoment)
    : Type 0 where
  pub written : HasWritten old.device old.storage (edit_need (capacity_of old.device) (node_of old.device) edit) new.device new.storage
  pub stands : IfOk result (IsStanding new.device new.storage.ring)
  pub shows : IfOk result (λ to. tree_on new.device to ≡ edited_tree old.device edit root)
  pub reached : IfOk result (ReachesFrom old.device old.storage (source root edit) new.device)
  pub refused : IfErr result (λ fault. WorkRefuses old.device old.storage edit fault new.device new.storage)
  pub still : edit_need (capacity_of old.device) (node_of old.device) edit ≡ 0 → (new.device ≡ old.device) × (new.storage ≡ old.storage)

-- what a change works on: a flash, the history and the change group of the system on it, and what nodes are kept with
pub record Work : Type 0 where
  pub device : Device
  pub history : Past ℕ
  pub group : Option (Group ℕ)
  pub storage : Storage

abbrev pub work : Device → Past ℕ → Option (Group ℕ) → Storage → Work
work d h g s = record { device = d; history = h; group = g; storage = s }

abbrev pub work_at : Moment → Work
work_at m = work m.device m.state.history m.state.group m.state.storage

-- how many nodes an edit may write
abbrev pub need_at : Work → Edit → ℕ
need_at old edit = edit_need (capacity_of old.device) (node_of old.device) edit

-- for a version, which is made where no group is open, a serial is left
abbrev pub LeavesSerial : Past ℕ → Option (Group ℕ) → Type 0
LeavesSerial h g = g ≡ None → h.next < last_serial

-- a root stands that has the edited tree of the root that calls work on and reaches what the source of the edit did,
-- or what was written in blocks that were not used, and calls work on it now: it is the group's, or a new version's;
-- read-only mode was off and is, and for a version a serial was left
pub record IsPushed (old : Work) (edit : Edit) (new : Work) : Type 0 where
  pub root : ℕ
  pub to : ℕ
  pub working : working_root old.history old.group ≡ Some root
  pub pushed : new.history ≡ history_with old.history old.group to
  pub regrouped : new.group ≡ group_with old.group to
  pub stands : IsStanding new.device new.storage.ring to
  pub shows : tree_on new.device to ≡ edited_tree old.device edit root
  pub reached : ReachesFrom old.device old.storage (source root edit) new.device to
  pub writable : is_read_only old.storage.bad ≡ false
  pub stays_writable : is_read_only new.storage.bad ≡ false
  pub serial_left : LeavesSerial old.history old.group

-- read-only mode is on: it was, or it came on in the work, for which a serial was left
pub record IsReadOnly (h : Past ℕ) (g : Option (Group ℕ)) (s : Storage) (t : Storage) : Type 0 where
  pub on : is_read_only t.bad ≡ true
  pub serial_left : is_read_only s.bad ≡ false → LeavesSerial h g

-- no serial is left for a version, and read-only mode was off
pub record IsOverflow (h : Past ℕ) (g : Option (Group ℕ)) (s : Storage) : Type 0 where
  pub outside : g ≡ None
  pub writable : is_read_only s.bad ≡ false
  pub last : h.next ≡ last_serial

-- why a change is refused by read-only mode or the serials, which are checked in this order
abbrev pub CheckCause : Past ℕ → Option (Group ℕ) → Storage → Fault → Storage → Type 0
CheckCause h g s fault t = ((fault ≡ ReadOnly) × IsReadOnly h g s t) ⊎ ((fault ≡ Overflow) × IsOverflow h g s)

-- the nodes are not written, though read-only mode was off and a serial was left
pub record IsUnwritten (old : Work) (edit : Edit) (fault : Fault) (new : Device) (t : Storage) : Type 0 where
  pub writable : is_read_only old.storage.bad ≡ false
  pub serial_left : LeavesSerial old.history old.group
  pub why : WorkRefuses old.device old.storage edit fault new t

-- why a change is refused, in the order in which it is checked
abbrev pub ChangeCause : Work → Edit → Fault → Device → Storage → Type 0
ChangeCause old edit fault new t =
    CheckCause old.history old.group old.storage fault t ⊎ IsUnwritten old edit fault new t

-- how a change ends: one version more, or another tree of the group; or the same history and group
abbrev pub ChangeEnds : Work → Edit → Result (Unit {0}) Fault → Work → Type 0
ChangeEnds old edit (Ok x) new = IsPushed old edit new
ChangeEnds old edit (Err fault) new =
    (new.history ≡ old.history) × (new.group ≡ old.group) × ChangeCause old edit fault new.device new.storage

-- what a change leaves, whatever it answers; one that needs no node leaves flash and storage as they were
pub record IsChanged (old : Work) (edit : Edit) (result : Result (Unit {0}) Fault) (new : Work) : Type 0 where
  pub written : HasWritten old.device old.storage (need_at old edit) new.device new.storage
  pub ends : ChangeEnds old edit result new
  pub still : need_at old edit ≡ 0 → (new.device ≡ old.device) × (new.storage ≡ old.storage)
