-- The tree of a root block: what each path leads to through directories.
use Rattle.std.specs.Prelude.{◌≡◌, ℕ, zero, suc, ◌≤◌, Bool, Option, Some, None, List, [], ◌∷◌, length, map}
use Rattle.std.specs.Option.{option_map, option_and_then}
use Rattle.std.specs.List.{flat_map}
use Rattle.std.specs.FinMap.{from_entries}
use Rattle.fs_types.specs.declared.limits.TheConstants.{MAX_NAMES}
use Rattle.fs_types.specs.Names.{Name, Path}
use Rattle.plain_trees.specs.Contents.{Contents, Entry}
use Rattle.plain_trees.specs.Trees.{Tree}
use Rattle.node_format.specs.Items.{Item, named_place}
pub use Rattle.node_format.specs.Items.{is_dir_place}
pub use Rattle.nodes.specs.Chains.{entries_in, items_in}
use Rattle.node_format.specs.declared.place.Place.{Place}
use Rattle.node_format.specs.declared.place.Place.TheVariants.{Dir, File}
use Rattle.nodes.specs.Bodies.{Blocks, body, IsBody}

-- what a name in a directory leads to
abbrev pub child : Blocks → Place → Name → Option Place
child f (Dir block) n = named_place (items_in f block) n
child f (File head size) n = None

-- what a path leads to
abbrev pub leads : Blocks → Place → Path → Option Place
leads f at [] = Some at
leads f at (n ∷ p) = option_and_then (λ next. leads f next p) (child f at n)

-- a place as what stands there
abbrev pub entry_at : ℕ → Blocks → Place → Entry
entry_at capacity f (Dir block) = Entry.Dir
entry_at capacity f (File head size) = Entry.File (body capacity f head size)

-- what stands at each path below a place
abbrev pub tree_at : ℕ → Blocks → Place → Contents
tree_at capacity f at p = option_map (entry_at capacity f) (leads f at p)

-- the tree of a root
abbrev pub tree : ℕ → Blocks → ℕ → Contents
tree capacity f root = tree_at capacity f (Dir root)

-- a directory begins in its block, a file has a body
abbrev pub IsWholePlace : ℕ → Blocks → Place → Type 0
IsWholePlace capacity f (Dir block) = (items : List Item) × (entries_in f block ≡ Some items)
IsWholePlace capacity f (File head size) = IsBody capacity f head size

-- all that paths lead to is whole, and no path has more names than `depth`; so no directory is below itself
abbrev pub HasTree : ℕ → Blocks → Place → ℕ → Type 0
HasTree capacity f from depth = (p : Path) (at : Place) → leads f from p ≡ Some at → IsWholePlace capacity f at × (length p ≤ depth)

-- a root has a tree of paths that are not too long
abbrev pub IsRoot : ℕ → Blocks → ℕ → Type 0
IsRoot capacity f root = HasTree capacity f (Dir root) MAX_NAMES

-- a place with at most so many names below it: each path, with what stands there
abbrev pub listed : ℕ → Blocks → ℕ → Place → List (Path × Entry)
listed capacity f depth (File head size) = ([], Entry.File (body capacity f head size)) ∷ []
listed capacity f zero (Dir block) = ([], Entry.Dir) ∷ []
listed capacity f (suc depth) (Dir block) = ([], Entry.Dir) ∷ flat_map (λ item. map (λ e. (item.name ∷ e.0, e.1)) (listed capacity f depth item.place)) (items_in f block)

-- the tree of a root as a finite map
abbrev pub root_tree : ℕ → Blocks → ℕ → Tree
root_tree capacity f root = from_entries (listed capacity f MAX_NAMES (Dir root))

-- the names in a directory, each with whether it is a directory itself
abbrev pub names_of : List Item → List (Name × Bool)
names_of items = map (λ item. (item.name, is_dir_place item.place)) items
