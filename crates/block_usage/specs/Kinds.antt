-- What a block of a flash is, by the system that is mounted on it.
use Rattle.std.specs.Prelude.{◌≡◌, ◌⊎◌, ℕ, ◌+◌, ◌/◌, ◌<◌, ◌≤◌, true, false, Some, List, ◌++◌, length, map, take, drop, slice_get}
use Rattle.std.specs.FinSet as set
use Rattle.std.specs.Ordering.{nat_cmp}
use Rattle.fs_types.specs.declared.limits.TheConstants.{ANCHORS}
use Rattle.flash_model.specs.Device.{Device}
use Rattle.history_machine.specs.History.{Past}
use Rattle.anchors.specs.declared.best.Found.{Found}
use Rattle.anchors.specs.Parts.{parts_on, newest_at}
use Rattle.node_store.specs.NodePages.{node_of}
use Rattle.nodes.specs.Reached.{Reached}
use Rattle.system.specs.CleaningRounds.{IsBlank}
use Rattle.block_usage.specs.declared.block_kind.BlockKind.{BlockKind}

-- the roots of the versions, of the present one, of the others, and of the checkpoints
abbrev pub version_roots : Past ℕ → List ℕ
version_roots h = map (λ v. v.root) h.versions

abbrev pub present_roots : Past ℕ → List ℕ
present_roots h = take 1 (drop h.cursor (version_roots h))

abbrev pub other_roots : Past ℕ → List ℕ
other_roots h = take h.cursor (version_roots h) ++ drop (h.cursor + 1) (version_roots h)

abbrev pub checkpoint_roots : Past ℕ → List ℕ
checkpoint_roots h = map (λ e. e.1) h.checkpoints

-- what reaches a block
abbrev pub IsPresent : Device → Past ℕ → ℕ → Type 0
IsPresent d h b = Reached (node_of d) (present_roots h) b

abbrev pub IsOther : Device → Past ℕ → ℕ → Type 0
IsOther d h b = Reached (node_of d) (other_roots h) b

abbrev pub IsCheckpoint : Device → Past ℕ → ℕ → Type 0
IsCheckpoint d h b = Reached (node_of d) (checkpoint_roots h) b

-- the newest record begins on this anchor
abbrev pub HasNewest : Device → ℕ → Type 0
HasNewest d b = (found : Found) × (newest_at d.geometry (parts_on d.geometry d.pages) ≡ Some found) × (found.page / d.geometry.pages ≡ b)

-- it is a data block and not bad
abbrev pub IsSound : set.FinSet nat_cmp → ℕ → Type 0
IsSound bad b = (ANCHORS ≤ b) × (set.contains bad b ≡ false)

-- and nothing reaches it
abbrev pub IsFree : Device → Past ℕ → set.FinSet nat_cmp → ℕ → Type 0
IsFree d h bad b = IsSound bad b × ¬ IsPresent d h b × ¬ IsOther d h b × ¬ IsCheckpoint d h b

-- a kind is the first of all that holds of a block
abbrev pub IsKind : Device → Past ℕ → set.FinSet nat_cmp → ℕ → BlockKind → Type 0
IsKind d h bad b BlockKind.NewestAnchor = HasNewest d b
IsKind d h bad b BlockKind.Anchor = (b < ANCHORS) × ¬ HasNewest d b
IsKind d h bad b BlockKind.Bad = (ANCHORS ≤ b) × (set.contains bad b ≡ true)
IsKind d h bad b BlockKind.Present = IsSound bad b × IsPresent d h b × ¬ IsOther d h b × ¬ IsCheckpoint d h b
IsKind d h bad b BlockKind.Shared = IsSound bad b × IsPresent d h b × (IsOther d h b ⊎ IsCheckpoint d h b)
IsKind d h bad b BlockKind.Other = IsSound bad b × ¬ IsPresent d h b × IsOther d h b
IsKind d h bad b BlockKind.Checkpoint = IsSound bad b × ¬ IsPresent d h b × ¬ IsOther d h b × IsCheckpoint d h b
IsKind d h bad b BlockKind.Stale = IsFree d h bad b × ¬ IsBlank d b
IsKind d h bad b BlockKind.Blank = IsFree d h bad b × IsBlank d b

-- each block of the flash is told, by its kind
pub record AreKinds (d : Device) (h : Past ℕ) (bad : set.FinSet nat_cmp) (kinds : List BlockKind) : Type 0 where
  pub all : length kinds ≡ d.geometry.blocks
  pub each : (b : ℕ) (kind : BlockKind) → slice_get kinds b ≡ Some kind → IsKind d h bad b kind
