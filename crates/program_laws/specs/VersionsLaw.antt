-- The law of what is told of versions and checkpoints: a line for each, and no other.
use Rattle.std.specs.Prelude.{◌≡◌, ◌<◌, ◌++◌, ◌==◌, ℕ, Bool, Some, List, map, slice_get, All, AllPairs, count_by}
use Rattle.std.specs.List.{flat_map}
use Rattle.std.specs.declared.cmp.Ordering.{Ordering}
use Rattle.fs_types.specs.Names.{Name, name_cmp}
use Rattle.fs_types.specs.declared.call.View.{View}
use Rattle.flash_model.specs.Device.{Device}
use Rattle.history_machine.specs.Machine.{Machine, IsMachine, view_tree}
use Rattle.system.specs.VersionSpace.{IsHistorySpace}
use Rattle.system.specs.declared.version_space.HistorySpace.{HistorySpace}
use Rattle.system.specs.declared.version_space.VersionSpace.{VersionSpace}
use Rattle.working_state.specs.Seen.{machine_on}
use Rattle.working_state.specs.declared.state.State.{State}
use Rattle.inquiries.specs.Versions.{version_text, checkpoint_line, kept_serials, kept_names, AreVersionLines}

-- what the line of a version tells: its serial, what it keeps, and whether it is the present one
pub record ToldVersion : Type 0 where
  pub serial : ℕ
  pub kept : VersionSpace
  pub is_present : Bool

abbrev pub told_line : Machine → ToldVersion → List ℕ
told_line m told = version_text m told.serial told.kept told.is_present

-- lines tell the versions and the checkpoints of a machine, which keep so much, and nothing else
pub record TellsVersions (m : Machine) (space : HistorySpace) (text : List ℕ) : Type 0 where
  -- the versions that have a line, the checkpoints with the blocks that each keeps alone, and their lines
  pub versions : List ToldVersion
  pub checkpoints : List (Name × ℕ)
  pub lines : text ≡ flat_map (told_line m) versions ++ flat_map (checkpoint_line m) checkpoints
  -- these are the kept versions, the oldest first, and the checkpoints, in byte order of their names
  pub serials : map (λ told. told.serial) versions ≡ kept_serials m
  pub names : map (λ told. told.0) checkpoints ≡ kept_names m
  pub oldest_first : AllPairs (λ first second. first.serial < second.serial) versions
  pub byte_order : AllPairs (λ first second. name_cmp first.0 second.0 ≡ Ordering.Less) checkpoints
  -- each is told with what it keeps
  pub kept : map (λ told. told.kept) versions ≡ space.versions
  pub alone : map (λ told. told.1) checkpoints ≡ space.checkpoints
  -- one is told to be present, and it is the one at the cursor
  pub present : (place : ℕ) (told : ToldVersion) → slice_get versions place ≡ Some told → told.is_present ≡ (place == m.history.cursor)
  pub one_present : count_by (λ told. told.is_present) versions ≡ 1

-- the tree of which a line tells is that of its version or of its checkpoint
pub record ShowsKept (m : Machine) : Type 0 where
  pub versions : All (λ version. view_tree m (View.Serial version.serial) ≡ version.root) m.history.versions
  pub checkpoints : All (λ checkpoint. view_tree m (View.Checkpoint checkpoint.0) ≡ checkpoint.1) m.history.checkpoints

-- each kept version has a line, the oldest first, and then each checkpoint, in byte order of the names; nothing else has one
abbrev pub VersionsLaw : Type 0
VersionsLaw = (d : Device) (s : State) (text : List ℕ) → IsMachine (machine_on d s) → AreVersionLines d s text
    → (space : HistorySpace) × IsHistorySpace d s space × TellsVersions (machine_on d s) space text

-- the sizes in the line of a version or a checkpoint are those of its tree
abbrev pub KeptTreesLaw : Type 0
KeptTreesLaw = (m : Machine) → IsMachine m → ShowsKept m
