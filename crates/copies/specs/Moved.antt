-- Renames that are tried, what stands where they lead to, and what is changed after that.
use Rattle.std.specs.Prelude.{◌≡◌, ◌⊎◌, Option, Some, None, List, [], ◌∷◌, ◌++◌, Contains}
use Rattle.std.specs.FinMap.{get}
use Rattle.std.specs.List.{flat_map}
use Rattle.fs_types.specs.Names.{Path}
use Rattle.fs_types.specs.declared.call.Call.{Call}
use Rattle.fs_types.specs.declared.limits.TheConstants.{MAX_NAMES}
use Rattle.plain_trees.specs.Contents.{Entry}
use Rattle.plain_trees.specs.Trees.{Tree}
use Rattle.inquiries.specs.Items.{item_at, items_below}
use Rattle.inquiries.specs.declared.items.Item.{Item}
use Rattle.history_copies.specs.Laws.{changes_or}
use Rattle.history_machine.specs.Machine.{Machine}
use Rattle.tree_differences.specs.UpdateLaws.{renames}
use Rattle.copies.specs.Calls.{Does, WasRefused}

-- the item of a path, where something stands there
abbrev pub there_by : Tree → Path → Option Entry → List Item
there_by t path None = []
there_by t path (Some entry) = item_at t path ∷ []

abbrev pub there_at : Tree → Path → List Item
there_at t path = there_by t path (get t path)

-- and what stands below it
abbrev pub subtree_by : Tree → Path → Option Entry → List Item
subtree_by t path (Some Entry.Dir) = item_at t path ∷ items_below t MAX_NAMES path
subtree_by t path entry = there_by t path entry

abbrev pub subtree_at : Tree → Path → List Item
subtree_at t path = subtree_by t path (get t path)

-- what of the paths of some items stands in a tree
abbrev pub there_in : Tree → List Item → List Item
there_in t items = flat_map (λ item. there_at t item.path) items

-- what stands where moves lead to
abbrev pub subtrees_at : Tree → List (Path × Path) → List Item
subtrees_at t moves = flat_map (λ one. subtree_at t one.1) moves

-- the changes after moves: where there are neither, a directory is made and removed
abbrev pub after_moves : List (Path × Path) → List Call → Path → List Call
after_moves [] changes path = changes_or changes path
after_moves (one ∷ moves) changes path = changes

-- a rename is made, and is one more of those that were, or it is refused and changes nothing
abbrev pub TriesOne : Machine → Path × Path → List (Path × Path) → Machine → List (Path × Path) → Type 0
TriesOne m one made n more =
    ((more ≡ made ++ one ∷ []) × Does m (Call.Rename one.0 one.1 ∷ []) n) ⊎ ((more ≡ made) × (n ≡ m) × WasRefused (Call.Rename one.0 one.1))

-- in a group some of these renames are made, and each other one was refused
pub record Tries (m : Machine) (moves made : List (Path × Path)) (n : Machine) : Type 0 where
  pub done : Does m (Call.Begin ∷ renames made) n
  pub among : (one : Path × Path) → Contains made one → Contains moves one
  pub tried : (one : Path × Path) → Contains moves one → Contains made one ⊎ WasRefused (Call.Rename one.0 one.1)
