-- The laws of a history that grows by one tree after another.
use Rattle.std.specs.Prelude.{◌≡◌, ◌+◌, ◌-◌, ◌≤◌, ℕ, List, [], ◌∷◌, ◌++◌, length, drop}
use Rattle.fs_types.specs.Names.{Path}
use Rattle.fs_types.specs.declared.call.Call.{Call}
use Rattle.plain_trees.specs.Trees.{Tree, bare}
use Rattle.history_machine.specs.History.{Past, IsLawful, fresh, changed, forgotten, with_checkpoint}
use Rattle.history_machine.specs.Machine.{IsMachine, mounted, present_tree, after}
use Rattle.tree_differences.specs.UpdateLaws.{Brings, EachAccepted}
use Rattle.history_copies.specs.Copies.{roots_in}

-- where nothing changes, a directory is made and removed
abbrev pub changes_or : List Call → Path → List Call
changes_or [] path = Call.Mkdir path ∷ Call.Rmdir path ∷ []
changes_or (call ∷ calls) path = call ∷ calls

-- the calls that make a version of changes, or of the same tree where there are none: in one group, which is brought to the flash
abbrev pub bringing : List Call → Path → List Call
bringing changes path = Call.Begin ∷ (changes_or changes path ++ Call.End ∷ Call.Sync ∷ [])

-- where the changes bring the present tree to another one, they make one version, of that tree
abbrev pub BringLaw : Type 0
BringLaw = (h : Past Tree) (new : Tree) (changes : List Call) (path : Path) → IsMachine (mounted h) → Brings (present_tree (mounted h)) new changes
    → EachAccepted (mounted h) (bringing changes path) → after (mounted h) (bringing changes path) ≡ mounted (changed h new)

-- the last so many of a list
abbrev pub last_of : {A : Type 0} → ℕ → List A → List A
last_of n xs = drop (length xs - n) xs

-- the versions have the last of these trees, and the newest one is present
pub record IsBuilt (kept : ℕ) (all : List Tree) (h : Past Tree) : Type 0 where
  pub limit : h.limit ≡ kept
  pub trees : roots_in h.versions ≡ last_of kept all
  pub newest : h.cursor + 1 ≡ length h.versions

pub record BuildLaw : Type 0 where
  -- it begins with an empty tree
  pub first : (limit : ℕ) → 2 ≤ limit → IsBuilt limit (bare ∷ []) (fresh limit bare)
  -- each version adds its tree
  pub adds : (limit : ℕ) (trees : List Tree) (h : Past Tree) (t : Tree) → IsLawful h → IsBuilt limit trees h → IsBuilt limit (trees ++ t ∷ []) (changed h t)
  -- a checkpoint adds none
  pub keeps : (limit : ℕ) (trees : List Tree) (h : Past Tree) (name : List ℕ) → IsBuilt limit trees h → IsBuilt limit trees (with_checkpoint h name)
  -- where all versions but the last ones are forgotten, these have the last trees
  pub forgets : (limit : ℕ) (before kept : List Tree) (h : Past Tree) → IsBuilt limit (before ++ kept) h → 1 ≤ length kept → length kept ≤ limit
      → IsBuilt limit kept (forgotten h (length h.versions - length kept))
