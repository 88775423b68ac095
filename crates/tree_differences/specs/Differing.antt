-- Where two trees of one flash differ, by the places that paths lead to.
use Rattle.std.specs.Prelude.{◌≡◌, ◌==◌, ◌&&◌, ℕ, zero, suc, Bool, true, false, not, Option, Some, None, List, [], ◌∷◌, ◌++◌, filter, if◌then◌else◌}
use Rattle.std.specs.List.{flat_map}
use Rattle.fs_types.specs.Names.{Name, Path}
use Rattle.node_format.specs.Items.{Item, named_place}
use Rattle.node_format.specs.declared.place.Place.{Place}
use Rattle.node_format.specs.declared.place.Place.TheVariants.{Dir, File}
use Rattle.nodes.specs.Bodies.{Blocks}
use Rattle.nodes.specs.Trees.{items_in, leads}
use Rattle.directory.specs.Places.{Begins}
use Rattle.plain_trees.specs.Trees.{Tree}
use Rattle.tree_differences.specs.Updates.{paths_of}

-- nothing is told of two directories, since what differs below them has paths of its own, and of one file
abbrev pub is_alike : Option Place → Option Place → Bool
is_alike None None = true
is_alike (Some (Dir block)) (Some (Dir there)) = true
is_alike (Some (File head size)) (Some (File there bytes)) = (head == there) && (size == bytes)
is_alike _ _ = false

-- a path leads elsewhere from one root than from another
abbrev pub differs_at : Blocks → ℕ → ℕ → Path → Bool
differs_at f root other path = not (is_alike (leads f (Dir root) path) (leads f (Dir other) path))

-- the paths of a tree, which is that of the first root, at which it does
abbrev pub differing_paths : Blocks → ℕ → ℕ → Tree → List Path
differing_paths f root other t = filter (differs_at f root other) (paths_of t)

-- the entries of the directory at a place; none of what is no directory
abbrev pub items_at : Blocks → Option Place → List Item
items_at f None = []
items_at f (Some (Dir block)) = items_in f block
items_at f (Some (File head size)) = []

-- what a name leads to from a place
abbrev pub child_at : Blocks → Option Place → Name → Option Place
child_at f at name = named_place (items_at f at) name

-- the path of an entry, where another place is told apart from its own
abbrev pub told : Path → Place → Option Place → List Path
told path at other = if is_alike (Some at) other then [] else path ∷ []

-- the paths below a place, in so many levels, at which another place leads elsewhere
unfoldable pub differing_below : Blocks → ℕ → Path → Place → Option Place → List Path
differing_below f zero directory at other = []
differing_below f (suc levels) directory at other =
    flat_map (λ item. told (directory ++ item.name ∷ []) item.place (child_at f other item.name) ++ differing_below f levels (directory ++ item.name ∷ []) item.place (child_at f other item.name)) (items_at f (Some at))

-- a directory at a place begins in its block
abbrev pub BeginsAt : Blocks → Option Place → Type 0
BeginsAt f None = Unit {0}
BeginsAt f (Some at) = Begins f at

-- and so does each one below it
abbrev pub IsReadable : Blocks → Option Place → Type 0
IsReadable f None = Unit {0}
IsReadable f (Some from) = (path : Path) (at : Place) → leads f from path ≡ Some at → Begins f at
