-- What a step of cleaning leaves of a flash and of the system on it.
use Rattle.std.specs.Prelude.{◌≡◌, ℕ, ◌+◌, ◌<◌, Bool, true, false, ◌||◌, max, Option, Some, None, Result, Ok, Err}
use Rattle.std.specs.FinSet as set
use Rattle.fs_types.specs.declared.fault.Fault.{Fault}
use Rattle.fs_types.specs.declared.fault.Fault.TheVariants.{ReadOnly, PowerCut}
use Rattle.fs_types.specs.declared.limits.TheConstants.{ANCHORS}
use Rattle.flash_model.specs.Device.{Device, block_of}
use Rattle.bad_blocks.specs.Mode.{is_read_only}
use Rattle.anchors.specs.Keeping.{KeepsNewest}
use Rattle.anchors.specs.Newest.{remembered}
use Rattle.node_store.specs.Storage.{DeviceGoesOn}
use Rattle.system.specs.CleaningRounds.{CleansBlocks, is_free}
use Rattle.working_state.specs.Mounted.{KeepsPages}
use Rattle.working_state.specs.Seen.{machine_on}
use Rattle.working_state.specs.Steps.{is_cut_answer}
use Rattle.mounting.specs.Saved.{saved_trees, IsWholeRecord}
use Rattle.system.specs.Commits.{KeepsRecord}
use Rattle.system.specs.declared.systems.System.{System}

-- what stays: the history, the group and the open files, so the machine; the ring, and the marking that goes on; and the
-- newest record, with its trees and its place. The bad list grows by exactly the failures, and by free blocks that are worn
pub record IsUndisturbed (old : Device) (m : System) (new : Device) (n : System) : Type 0 where
  pub device : DeviceGoesOn old new
  pub history : n.state.history ≡ m.state.history
  pub group : n.state.group ≡ m.state.group
  pub machine : machine_on new n.state ≡ machine_on old m.state
  pub ring : n.state.storage.ring ≡ m.state.storage.ring
  pub pass : n.pass ≡ m.pass
  pub record_roots : n.record_roots ≡ m.record_roots
  pub remembered : remembered n.anchors ≡ remembered m.anchors
  pub room : n.state.storage.cache.room ≡ m.state.storage.cache.room
  -- pages change of free blocks alone: of none that a version, a checkpoint, the group or the newest record reaches
  pub busy_pages : (p : ℕ) → is_free m.state.storage (block_of old p) ≡ false → new.pages p ≡ old.pages p
  pub newest : KeepsNewest old.geometry old.pages new.pages
  pub kept : KeepsPages old m.state new
  pub record_kept : KeepsRecord old new
  pub saved : saved_trees new ≡ saved_trees old
  pub whole : IsWholeRecord old → IsWholeRecord new
  pub stays_bad : (b : ℕ) → set.contains m.state.storage.bad b ≡ true → set.contains n.state.storage.bad b ≡ true
  pub new_bad : (b : ℕ) → set.contains n.state.storage.bad b ≡ true → set.contains m.state.storage.bad b ≡ false
      → (is_free m.state.storage b ≡ true) × (new.worn b ≡ true)
  pub failures : new.failures + set.len m.state.storage.bad ≡ old.failures + set.len n.state.storage.bad

-- no page of an anchor changes, nor what is remembered of them
pub record LeavesAnchors (old : Device) (m : System) (new : Device) (n : System) : Type 0 where
  pub anchors : n.anchors ≡ m.anchors
  pub pages : (p : ℕ) → block_of old p < ANCHORS → new.pages p ≡ old.pages p

-- what a step answers by how its round went on, and the block at which the next step goes on: 0 begins a new round
abbrev pub TellsRound : Result (Option ℕ) Fault → Result Bool Fault → ℕ → Type 0
TellsRound (Ok (Some next)) result to = (result ≡ Ok false) × (to ≡ next)
TellsRound (Ok None) result to = (result ≡ Ok true) × (to ≡ 0)
TellsRound (Err fault) result to = (result ≡ Err fault) × (to ≡ 0)

-- the round went on over the free data blocks, from the block on that the last step came to
pub record GoesOn (old : Device) (m : System) (budget : ℕ) (result : Result Bool Fault) (new : Device) (n : System) : Type 0 where
  pub ended : Result (Option ℕ) Fault
  pub cleans : CleansBlocks old m.state.storage (max m.cleaned_to ANCHORS) budget ended new n.state.storage
  pub tells : TellsRound ended result n.cleaned_to

-- in read-only mode nothing is done, and a new round begins
pub record StepCleans (old : Device) (m : System) (budget : ℕ) (result : Result Bool Fault) (new : Device) (n : System) : Type 0 where
  pub read_only : is_read_only m.state.storage.bad ≡ true → (result ≡ Err ReadOnly) × (new ≡ old) × (n.state.storage ≡ m.state.storage) × (n.cleaned_to ≡ 0)
  pub goes_on : is_read_only m.state.storage.bad ≡ false → GoesOn old m budget result new n

-- a step of cleaning, whatever it answers. Once a call has answered that the power is off, nothing changes
pub record Cleans (old : Device) (m : System) (budget : ℕ) (result : Result Bool Fault) (new : Device) (n : System) : Type 0 where
  pub undisturbed : IsUndisturbed old m new n
  pub anchors : LeavesAnchors old m new n
  pub prepared : n.prepared ≡ m.prepared
  pub cleans : m.state.is_off ≡ false → StepCleans old m budget result new n
  pub off : n.state.is_off ≡ m.state.is_off || is_cut_answer result
  pub stopped : m.state.is_off ≡ true → (result ≡ Err PowerCut) × (new ≡ old) × (n ≡ m)
