-- What a history is copied to, which may keep fewer versions.
use Rattle.std.specs.Prelude.{◌≡◌, ◌+◌, ◌-◌, ◌++◌, ℕ, min, max, List, length, take, drop, map}
use Rattle.fs_types.specs.declared.call.Version.{Version}
use Rattle.plain_trees.specs.Trees.{Tree}
use Rattle.history_machine.specs.History.{Past}

-- the roots of versions
abbrev pub roots_in : {R : Type 0} → List (Version R) → List R
roots_in versions = map (λ v. v.root) versions

-- the place of the oldest version that is copied where so many are kept: the newest are, or the present one where that is older than these
abbrev pub first_kept : {R : Type 0} → ℕ → Past R → ℕ
first_kept limit h = min h.cursor (length h.versions - limit)

-- the place from which on all are copied: of those after the oldest one the newest are for which there is room beside it
abbrev pub others_kept : {R : Type 0} → ℕ → Past R → ℕ
others_kept limit h = max (first_kept limit h + 1) (length h.versions - (limit - 1))

-- the versions that are copied, oldest first
abbrev pub kept_versions : {R : Type 0} → ℕ → Past R → List (Version R)
kept_versions limit h = take 1 (drop (first_kept limit h) h.versions) ++ drop (others_kept limit h) h.versions

-- the trees of the versions for which it has room, the present one among them, and all checkpoints
pub record IsCopy (old new : Past Tree) : Type 0 where
  pub trees : roots_in new.versions ≡ roots_in (kept_versions new.limit old)
  pub cursor : new.cursor ≡ old.cursor - first_kept new.limit old
  pub checkpoints : new.checkpoints ≡ old.checkpoints
