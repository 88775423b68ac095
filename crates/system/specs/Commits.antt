-- What a commit saves, what a call leaves of the newest record, and what a call does that is tried once.
use Rattle.std.specs.Prelude.{◌≡◌, ◌⊎◌, ℕ, ◌+◌, ◌-◌, ◌^◌, ◌<◌, true, false, ◌||◌, Some, Result, Err, OnOk, OnErr}
use Rattle.std.specs.FinSet as set
use Rattle.history_machine.specs.History.{Past}
use Rattle.history_machine.specs.Machine.{is_accepted}
use Rattle.plain_trees.specs.Trees.{Tree}
use Rattle.fs_types.specs.declared.call.Call.{Call}
use Rattle.fs_types.specs.declared.call.Reply.{Reply}
use Rattle.fs_types.specs.declared.fault.Fault.{Fault}
use Rattle.fs_types.specs.declared.fault.Fault.TheVariants.{ReadOnly, Overflow, PowerCut, NoMemory}
use Rattle.fs_types.specs.declared.limits.TheConstants.{ANCHORS}
use Rattle.flash_model.specs.Device.{Device, block_of}
use Rattle.node_store.specs.NodePages.{node_of}
use Rattle.nodes.specs.Reached.{Reached}
use Rattle.bad_blocks.specs.Mode.{is_read_only}
use Rattle.record_format.specs.declared.record.Record.{Record}
use Rattle.anchors.specs.Newest.{remembered}
use Rattle.anchors.specs.Parts.{sequence_of, greatest_on}
use Rattle.anchors.specs.Anchored.{OnlyAnchors}
use Rattle.anchors.specs.Committing.{Commits}
use Rattle.anchors.specs.Remembering.{IsPlaced}
use Rattle.working_state.specs.Leaves.{Leaves}
use Rattle.working_state.specs.Mounted.{KeepsPages, TellsSpace}
use Rattle.working_state.specs.Seen.{machine_on, shown_on}
use Rattle.working_state.specs.Steps.{is_sync, is_cut_answer, CallStep}
use Rattle.working_state.specs.declared.state.State.{State}
use Rattle.mounting.specs.Contents.{record_of}
use Rattle.mounting.specs.Records.{history_of, roots_of}
use Rattle.mounting.specs.Saved.{saved_on, saved_trees, IsWholeRecord}
use Rattle.system.specs.declared.systems.System.{System}

-- the record that a commit of a working state writes, apart from its sequence and its bad blocks
abbrev pub record_on : Device → State → Record
record_on d s = record_of d.geometry s.history s.storage.ring.last

-- what a commit of the working state leaves, whatever it answers. It writes the record with the next sequence and
-- the list of bad blocks as it is left, or leaves the newest record as it was; where power went, either. No page of
-- a data block changes, so none of a used one, and the list grows by exactly the failures, by anchors. All else of
-- the state is as it was
pub record Saves {T : Type 0} (old : Device) (m : System) (result : Result T Fault) (new : Device) (n : System)
    : Type 0 where
  pub commits : Commits old.pages new.pages (record_on old m.state) (greatest_on old.geometry old.pages + 1)
      n.state.storage.bad result
  pub only_anchors : OnlyAnchors old m.state.storage.bad new n.state.storage.bad
  pub used_pages : (p : ℕ) → set.contains m.state.storage.ring.used (block_of old p) ≡ true → new.pages p ≡ old.pages p
  pub state : n.state ≡ record m.state {
    storage = record m.state.storage { bad = n.state.storage.bad };
    is_off = m.state.is_off || is_cut_answer result;
  }
  pub writable : OnOk result (is_read_only n.state.storage.bad ≡ false)
  -- the record is where a commit after the newest one puts it, and nothing was read: each of its pages was
  -- programmed, an anchor erased only where it is on another one, and what came beside came on anchors that failed
  pub placed : OnOk result
      (IsPlaced old m.state.storage.bad m.anchors (record_on old m.state) 0 new n.state.storage.bad)
  pub overflow : result ≡ Err Overflow → greatest_on old.geometry old.pages ≡ 2 ^ 64 - 1

-- why a commit is refused: read-only mode; no sequence is left; the device is off; memory was wanted
abbrev pub SaveCause : Device → System → Device → System → Fault → Type 0
SaveCause old m new n ReadOnly = is_read_only n.state.storage.bad ≡ true
SaveCause old m new n Overflow =
    (is_read_only m.state.storage.bad ≡ false) × (greatest_on old.geometry old.pages ≡ 2 ^ 64 - 1)
SaveCause old m new n PowerCut = new.powered ≡ false
SaveCause old m new n NoMemory = Unit {0}
SaveCause old m new n _ = ⊥

-- no sequence is left for a commit that is not refused for read-only mode
abbrev pub LacksSequence : Device → System → Type 0
LacksSequence d m = (is_read_only m.state.storage.bad ≡ false) × (greatest_on d.geometry d.pages ≡ 2 ^ 64 - 1)

-- what a commit is refused for before anything is asked for: read-only mode, or else that no sequence is left after
-- the newest record's
abbrev pub CommitRefuses : System → Fault → Type 0
CommitRefuses m ReadOnly = is_read_only m.state.storage.bad ≡ true
CommitRefuses m Overflow =
    (is_read_only m.state.storage.bad ≡ false) × (sequence_of (remembered m.anchors) ≡ 2 ^ 64 - 1)
CommitRefuses m _ = ⊥

-- no page changes of a block that the newest record reaches
abbrev pub KeepsRecord : Device → Device → Type 0
KeepsRecord old new =
    (r : Record) → saved_on old ≡ Some r → (p : ℕ) → Reached (node_of old) (roots_of (history_of r)) (block_of old p)
    → new.pages p ≡ old.pages p

-- the newest record after a call: it is the one before, or, where the call commits, the working history as that was
-- before it. After a sync that answered Ok it is that
pub record RecordAfter (commits : Type 0) (call : Call) (result : Result Reply Fault) (old : Device) (working : Past Tree)
    (new : Device) : Type 0 where
  pub either : (saved_trees new ≡ saved_trees old) ⊎ (commits × (saved_trees new ≡ Some working))
  pub synced : is_sync call ≡ true → OnOk result (saved_trees new ≡ Some working)
  -- each of its versions and checkpoints has a tree, as before
  pub whole : IsWholeRecord old → IsWholeRecord new
  -- no page of an anchor changes but in a commit
  pub anchors : (commits → ⊥) → (p : ℕ) → block_of old p < ANCHORS → new.pages p ≡ old.pages p
  -- no page changes of a block that the newest record reaches, as long as that is the newest
  pub kept : KeepsRecord old new ⊎ (commits × (saved_trees new ≡ Some working))

-- where no sequence is left, a call that commits and is accepted tells it before memory is asked for, and nothing
-- changes
abbrev pub TellsLast : Device → System → Call → Result Reply Fault → Device → System → Type 0
TellsLast old m call result new n =
    is_sync call ≡ true → m.state.is_off ≡ false → is_accepted (machine_on old m.state) call ≡ true
    → LacksSequence old m → (result ≡ Err Overflow) × (new ≡ old) × (n ≡ m)

-- what a call does that is tried once: the step of its working state, and what is left of the flash, the state and
-- the newest record. The marking that goes on and the prepared blocks are as they were, and no page changes of a block that a version, a
-- checkpoint or the group reaches
pub record TriesOnce (old : Device) (m : System) (call : Call) (result : Result Reply Fault) (new : Device) (n : System)
    : Type 0 where
  pub step : CallStep (shown_on old m.state) call result (shown_on new n.state)
  pub leaves : is_sync call ≡ false → Leaves (machine_on old m.state) call old m.state.storage new n.state.storage
  pub saves : is_sync call ≡ true → Saves old m result new n
  pub told : TellsSpace (machine_on old m.state) call result new n.state
  pub refused : OnErr result (n.state.history ≡ m.state.history)
  pub regrouped : OnErr result (n.state.group ≡ m.state.group)
  pub stopped : m.state.is_off ≡ true → (new ≡ old) × (n ≡ m)
  pub last : TellsLast old m call result new n
  pub pass : n.pass ≡ m.pass
  pub prepared : n.prepared ≡ m.prepared
  pub pages : KeepsPages old m.state new
  pub after : RecordAfter (is_sync call ≡ true) call result old (machine_on old m.state).history new
