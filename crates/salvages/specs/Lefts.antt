-- What is left of a tree of which some nodes are lost, as a list, and the calls that make it.
use Rattle.std.specs.Prelude.{ℕ, zero, suc, nat_lt, Option, Some, None, List, [], ◌∷◌, ◌++◌, length, map, sum_by, if◌then◌else◌}
use Rattle.std.specs.List.{flat_map}
use Rattle.fs_types.specs.declared.call.Call.{Call}
use Rattle.fs_types.specs.declared.limits.TheConstants.{MAX_NAMES}
use Rattle.fs_types.specs.Names.{Path}
use Rattle.plain_trees.specs.Contents.{Entry}
use Rattle.node_format.specs.Items.{Item}
use Rattle.node_format.specs.declared.place.Place.{Place}
use Rattle.node_format.specs.declared.place.Place.TheVariants.{Dir, File}
use Rattle.nodes.specs.Bodies.{Blocks}
use Rattle.known_nodes.specs.Rests.{items_left, entry_left}
use Rattle.known_nodes.specs.WholeFiles.{is_file}
use Rattle.salvages.specs.declared.lefts.Left.{Left}

abbrev pub left : Path → Place → Left
left path place = record { path = path; place = place }

abbrev pub left_item : Path → Item → Left
left_item path item = left (path ++ item.name ∷ []) item.place

-- what stands right in a directory at a path that may have a name more
abbrev pub left_in : Blocks → Path → Place → List Left
left_in f path (Dir block) = if nat_lt (length path) MAX_NAMES then map (left_item path) (items_left f block) else []
left_in f path (File head size) = []

abbrev pub next_left : Blocks → Left → List Left
next_left f l = left_in f l.path l.place

-- all that paths lead to from there, level by level
unfoldable pub left_from : ℕ → Blocks → List Left → List Left
left_from zero f lefts = lefts
left_from (suc levels) f lefts = lefts ++ left_from levels f (flat_map (next_left f) lefts)

abbrev pub left_of : Blocks → ℕ → List Left
left_of f root = left_from MAX_NAMES f (left [] (Dir root) ∷ [])

-- the call that makes what is left at a path; none for the root, which is there
abbrev pub made_at : Path → Option Entry → List Call
made_at [] entry = []
made_at (n ∷ p) None = []
made_at (n ∷ p) (Some Entry.Dir) = Call.Mkdir (n ∷ p) ∷ []
made_at (n ∷ p) (Some (Entry.File bytes)) = Call.WriteFile (n ∷ p) bytes ∷ []

abbrev pub made_of : ℕ → Blocks → Left → List Call
made_of capacity f l = made_at l.path (entry_left capacity f l.place)

abbrev pub rest_calls : ℕ → Blocks → ℕ → List Call
rest_calls capacity f root = flat_map (made_of capacity f) (left_of f root)

-- how many bytes the whole files have
abbrev pub size_at : ℕ → Blocks → Place → ℕ
size_at capacity f (Dir block) = 0
size_at capacity f (File head size) = if is_file capacity f head size then size else 0

abbrev pub size_of : ℕ → Blocks → Left → ℕ
size_of capacity f l = size_at capacity f l.place

abbrev pub rest_bytes : ℕ → Blocks → ℕ → ℕ
rest_bytes capacity f root = sum_by (size_of capacity f) (left_of f root)
