-- Places put under many names of one directory at once, and the tree that this makes.
use Rattle.std.specs.Prelude.{◌≡◌, ◌≢◌, ℕ, ◌-◌, ◌<◌, Bool, Option, Some, List, [], ◌∷◌, ◌++◌, length, Contains, if◌then◌else◌}
use Rattle.fs_types.specs.declared.limits.TheConstants.{MAX_NAMES}
use Rattle.fs_types.specs.Names.{Name, Path, same_name}
use Rattle.plain_trees.specs.Contents.{Entry, graft}
use Rattle.plain_trees.specs.Trees.{Tree, put}
use Rattle.node_format.specs.Items.{Item, named_place}
use Rattle.node_format.specs.declared.place.Place.{Place}
use Rattle.node_format.specs.declared.place.Place.TheVariants.{Dir, File}
use Rattle.nodes.specs.Bodies.{Blocks, IsBody}
use Rattle.nodes.specs.Reached.{IsHeld, Keeps}
use Rattle.nodes.specs.Trees.{entries_in, child, leads, entry_at, tree_at, tree, HasTree, IsRoot, root_tree}

-- what a name leads to once places were put under names, in order, which led to this before
abbrev pub placed : List (Name × Place) → Name → Option Place → Option Place
placed [] n was = was
placed (first ∷ puts) n was = placed puts n (if same_name first.0 n then Some first.1 else was)

-- the directory at `to` has the entries of the one at `from`, but that each of these names leads to its place
abbrev pub IsPutInto : Blocks → Blocks → ℕ → ℕ → List (Name × Place) → Type 0
IsPutInto old new from to puts =
    (items : List Item) × (entries_in new to ≡ Some items) × ((n : Name) → named_place items n ≡ placed puts n (child old (Dir from) n))

-- what the places lead to, put one after the other under their names in the directory at a path
abbrev pub put_places : ℕ → Blocks → Tree → Path → List (Name × Place) → Tree
put_places capacity f t directory [] = t
put_places capacity f t directory (first ∷ puts) =
    put_places capacity f (put t (directory ++ first.0 ∷ []) (entry_at capacity f first.1)) directory puts

-- a file that has a body
abbrev pub IsWholeFile : ℕ → Blocks → Place → Type 0
IsWholeFile capacity f (Dir block) = ⊥
IsWholeFile capacity f (File head size) = IsBody capacity f head size

-- each is a file in the new nodes, at a path where no directory stood
pub record AreFilePuts (capacity : ℕ) (old new : Blocks) (from : ℕ) (directory : Path) (puts : List (Name × Place)) : Type 0 where
  pub whole : (one : Name × Place) → Contains puts one → IsWholeFile capacity new one.1
  pub free : (one : Name × Place) → Contains puts one → tree capacity old from (directory ++ one.0 ∷ []) ≢ Some Entry.Dir

-- the new tree is the old one with what a block leads to in the place of the directory at a path; it is one where that is
pub record IsGrafted (capacity : ℕ) (old new : Blocks) (from to : ℕ) (directory : Path) (block : ℕ) : Type 0 where
  pub grafted : tree capacity new to ≡ graft (tree capacity old from) directory (tree_at capacity new (Dir block))
  pub shape : HasTree capacity new (Dir block) (MAX_NAMES - length directory) → IsRoot capacity new to

-- files put in a directory: the tree is the old one with each put in turn
abbrev pub PutFilesLaw : Type 0
PutFilesLaw = (capacity : ℕ) (old new : Blocks) (kept kept' : ℕ → Bool) (from to was block : ℕ) (directory : Path) (puts : List (Name × Place)) → Keeps kept old kept' new → IsHeld old kept (Dir from) → IsRoot capacity old from
    → leads old (Dir from) directory ≡ Some (Dir was) → length directory < MAX_NAMES → AreFilePuts capacity old new from directory puts
    → IsPutInto old new was block puts → IsGrafted capacity old new from to directory block
    → IsRoot capacity new to × (root_tree capacity new to ≡ put_places capacity new (root_tree capacity old from) directory puts)
