-- The law of what is listed at a path: each entry of a directory, once, and nothing else, or a file.
use Rattle.std.specs.Prelude.{◌≡◌, ℕ, Some, IsSome, List, [], ◌∷◌, ◌++◌, length, AllPairs, Contains}
use Rattle.std.specs.FinMap.{get}
use Rattle.std.specs.declared.cmp.Ordering.{Ordering}
use Rattle.fs_types.specs.Names.{Name, Path, path_cmp}
use Rattle.fs_types.specs.declared.call.Stat.{Stat}
use Rattle.plain_trees.specs.Contents.{Entry}
use Rattle.plain_trees.specs.Trees.{Tree, IsFileTree}
use Rattle.inquiries.specs.Items.{item_at, items_at}
use Rattle.inquiries.specs.declared.items.Item.{Item}

-- items tell the entries of a directory, and nothing else
pub record TellsEntries (t : Tree) (directory : Path) (items : List Item) : Type 0 where
  -- each entry has an item, with what stands there
  pub entries : (name : Name) → IsSome (get t (directory ++ name ∷ [])) → Contains items (item_at t (directory ++ name ∷ []))
  -- no other path has one
  pub others : (item : Item) → Contains items item → (name : Name) × (item.path ≡ directory ++ name ∷ []) × IsSome (get t item.path)
  -- the paths ascend, so that none has two
  pub order : AllPairs (λ first second. path_cmp first.path second.path ≡ Ordering.Less) items

-- of a directory its entries are listed, and of a file what stands there
pub record ListLaw : Type 0 where
  pub directories : (t : Tree) (path : Path) → IsFileTree t → get t path ≡ Some Entry.Dir → TellsEntries t path (items_at t path)
  pub files : (t : Tree) (path : Path) (bytes : List ℕ) → get t path ≡ Some (Entry.File bytes) → items_at t path ≡ record { path = path; stat = Stat.File (length bytes) } ∷ []
