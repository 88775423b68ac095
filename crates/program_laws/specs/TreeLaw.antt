-- The law of what is told of a tree: all that stands in it, each once, and nothing else.
use Rattle.std.specs.Prelude.{◌≡◌, ◌≢◌, ℕ, Some, IsSome, List, [], ◌∷◌, ◌++◌, length, AllPairs, Contains}
use Rattle.std.specs.FinMap.{get}
use Rattle.std.specs.declared.cmp.Ordering.{Ordering}
use Rattle.fs_types.specs.Names.{Name, Path, name_cmp, path_cmp}
use Rattle.fs_types.specs.declared.call.Stat.{Stat}
use Rattle.fs_types.specs.declared.call.View.{View}
use Rattle.history_machine.specs.Machine.{Machine, IsMachine, view_tree}
use Rattle.plain_trees.specs.Contents.{Entry}
use Rattle.plain_trees.specs.Trees.{Tree, entry_count, IsFileTree}
use Rattle.inquiries.specs.Items.{items_of}
use Rattle.inquiries.specs.declared.items.Item.{Item}

-- items tell all that stands in a tree below its root, and nothing else
pub record TellsTree (t : Tree) (items : List Item) : Type 0 where
  -- each directory but the root has an item, with the number of its entries
  pub directories : (path : Path) → path ≢ [] → get t path ≡ Some Entry.Dir → Contains items (record { path = path; stat = Stat.Dir (entry_count t path) })
  -- each file has one, with its length
  pub files : (path : Path) (bytes : List ℕ) → get t path ≡ Some (Entry.File bytes) → Contains items (record { path = path; stat = Stat.File (length bytes) })
  -- no other path has one
  pub others : (item : Item) → Contains items item → (item.path ≢ []) × IsSome (get t item.path)
  -- no path has two
  pub once : AllPairs (λ first second. first.path ≢ second.path) items
  -- the paths ascend
  pub order : AllPairs (λ first second. path_cmp first.path second.path ≡ Ordering.Less) items

-- where paths ascend, a directory comes before what stands in it, and of two names of a directory the lesser one with all that
-- stands below it
pub record PathOrderLaw : Type 0 where
  pub directories : (path : Path) (name : Name) (rest : Path) → path_cmp path (path ++ name ∷ rest) ≡ Ordering.Less
  pub names : (path : Path) (name other : Name) (rest more : Path) → name_cmp name other ≡ Ordering.Less → path_cmp (path ++ name ∷ rest) (path ++ other ∷ more) ≡ Ordering.Less

-- all that stands in a tree below its root is told, each directory and each file once, and nothing else
abbrev pub TreeLaw : Type 0
TreeLaw = (t : Tree) → IsFileTree t → TellsTree t (items_of t)

-- the tree that a view of a machine shows is within the limits, so that the laws of trees hold of it
abbrev pub ViewTreeLaw : Type 0
ViewTreeLaw = (m : Machine) (view : View) → IsMachine m → IsFileTree (view_tree m view)
