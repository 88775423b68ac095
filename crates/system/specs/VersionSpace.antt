-- What each version and each checkpoint keeps alone, and what it frees to forget the versions up to one.
use Rattle.std.specs.Prelude.{◌≡◌, ℕ, ◌+◌, ◌*◌, ◌<◌, ◌≤◌, true, false, Some, None, Result, Err, List, length, reverse, slice_get, slice_index, EachIndex, IfOk, IfErr}
use Rattle.fs_types.specs.declared.call.Call.{Call}
use Rattle.fs_types.specs.declared.call.Reply.{Reply}
use Rattle.fs_types.specs.declared.fault.Fault.{Fault}
use Rattle.fs_types.specs.declared.fault.Fault.TheVariants.{PowerCut}
use Rattle.flash_model.specs.Device.{Device}
use Rattle.node_store.specs.NodePages.{node_of}
use Rattle.reclaim.specs.Passes.{AreReached}
use Rattle.tree_counts.specs.Counts.{CountsAlone}
use Rattle.tree_counts.specs.FirstRoots.{AreFirstRoots}
use Rattle.working_state.specs.Seen.{seen_on}
use Rattle.working_state.specs.Steps.{replied}
use Rattle.working_state.specs.Worked.{ReadCause}
use Rattle.working_state.specs.declared.state.State.{State}
use Rattle.mounting.specs.Records.{working_roots}
use Rattle.system.specs.HistorySpace.{FreeAfter, Looks}
use Rattle.system.specs.Steps.{SystemStep}
use Rattle.system.specs.declared.systems.System.{System}
use Rattle.system.specs.declared.version_space.Ends.{Ends}
use Rattle.system.specs.declared.version_space.HistorySpace.{HistorySpace}
use Rattle.system.specs.declared.version_space.VersionSpace.{VersionSpace}

-- so many blocks more are free than now, as `df` shows it, once these many versions are forgotten
pub record Frees (d : Device) (s : State) (count frees : ℕ) : Type 0 where
  pub free : ℕ
  pub now : FreeAfter d s 0 free
  pub after : FreeAfter d s count (free + frees)

-- so many blocks that are not bad are reached by the root at a place alone: of the versions, the oldest first, then of the
-- checkpoints, and then of the group
abbrev pub KeepsAlone : Device → State → ℕ → ℕ → Type 0
KeepsAlone d s place alone = CountsAlone (node_of d) d.geometry.blocks s.storage.bad (working_roots s) place alone

-- what is told of the version at a place: one before the present one may be forgotten, with those before it
pub record IsVersionSpace (d : Device) (s : State) (place : ℕ) (version : VersionSpace) : Type 0 where
  pub before : place < s.history.cursor → (frees : ℕ) × (version.frees ≡ Some frees) × Frees d s (place + 1) frees
  pub from : s.history.cursor ≤ place → version.frees ≡ None
  pub alone : KeepsAlone d s place version.alone

-- what is told of all versions, and of all checkpoints; and so many blocks are free now
pub record IsHistorySpace (d : Device) (s : State) (space : HistorySpace) : Type 0 where
  pub free : ℕ
  pub now : FreeAfter d s 0 free
  pub all : length space.versions ≡ length s.history.versions
  pub each : (place : ℕ) (version : VersionSpace) → slice_get space.versions place ≡ Some version → IsVersionSpace d s place version
  pub all_checkpoints : length space.checkpoints ≡ length s.history.checkpoints
  pub each_checkpoint : EachIndex space.checkpoints (λ k. KeepsAlone d s (length s.history.versions + k) (slice_index space.checkpoints k))

-- the device was asked for the pages of some blocks that the roots reach, none more than twice, and for nothing else
pub record AsksTwice (old : Device) (roots : List ℕ) (new : Device) : Type 0 where
  pub once : List ℕ
  pub again : List ℕ
  pub are_once : AreReached (node_of old) roots once
  pub are_again : AreReached (node_of old) roots again
  pub most : new.operations ≤ old.operations + (length once + length again) * old.geometry.pages

-- the first root that reaches each block, of the roots of a state from either end on
pub record AreEnds (d : Device) (s : State) (ends : Ends) : Type 0 where
  pub firsts : AreFirstRoots (node_of d) (working_roots s) ends.firsts.items
  pub lasts : AreFirstRoots (node_of d) (reverse (working_roots s)) ends.lasts.items

-- there is a number for each block, and so many roots
pub record FitEnds (s : State) (ends : Ends) : Type 0 where
  pub firsts : length ends.firsts.items ≡ s.storage.ring.blocks
  pub lasts : length ends.lasts.items ≡ s.storage.ring.blocks
  pub roots : ends.roots ≡ length (working_roots s)

-- what versions and checkpoints keep is told, or why that is not. Once a call has answered that the power is off, nothing
-- changes; else nodes were read
pub record TellsHistorySpace (old : Device) (m : System) (result : Result HistorySpace Fault) (new : Device) (n : System) : Type 0 where
  pub stopped : m.state.is_off ≡ true → (result ≡ Err PowerCut) × (new ≡ old) × (n ≡ m)
  pub looks : m.state.is_off ≡ false → Looks old m result new n
  pub told : IfOk result (IsHistorySpace new n.state)
  pub why : m.state.is_off ≡ false → IfErr result (λ fault. ReadCause (seen_on old m.state) fault (seen_on new n.state))
  -- the flash and the system are left as by a call `df`
  pub as_df : m.state.is_off ≡ false → (reply : Reply) × SystemStep old m Call.Df (replied (λ space. reply) result) new n
