-- Trees as the maps that lists of entries make.
use Rattle.std.specs.Prelude.{◌≡◌, List, [], ◌∷◌}
use Rattle.std.specs.FinMap.{from_entries, insert}
use Rattle.std.specs.List.Sorted.{IsStrictlySortedBy}
use Rattle.std.specs.Map.{keys_of}
use Rattle.fs_types.specs.Names.{Path, path_cmp}
use Rattle.plain_trees.specs.Contents.{Entry}
use Rattle.plain_trees.specs.Trees.{Tree}

-- the map with the entries of a list put into it, the last one first
abbrev pub insert_all : List (Path × Entry) → Tree → Tree
insert_all [] t = t
insert_all (e ∷ es) t = insert (insert_all es t) e.0 e.1

-- the tree that a list of entries makes; of two for one path the first counts
abbrev pub tree_of : List (Path × Entry) → Tree
tree_of es = from_entries {R = path_cmp} es

-- entries in order make this tree
pub record IsTreeOf (es : List (Path × Entry)) (t : Tree) : Type 0 where
  pub sorted : IsStrictlySortedBy path_cmp (keys_of es)
  pub made : tree_of es ≡ t
