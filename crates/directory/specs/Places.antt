-- The entries of a directory that come after a name, and what stands at each.
use Rattle.std.specs.Prelude.{◌≡◌, ℕ, Some, Option, List, length, take, filter, map, nat_le, ◌||◌, ◌==◌, Bool, sum_by, All}
use Rattle.fs_types.specs.Names.{Name, is_after}
use Rattle.fs_types.specs.declared.call.Stat.{Stat}
use Rattle.node_format.specs.Items.{Item}
use Rattle.node_format.specs.declared.place.Place.{Place}
use Rattle.node_format.specs.declared.place.Place.TheVariants.{Dir, File}
use Rattle.nodes.specs.Bodies.{Blocks}
use Rattle.nodes.specs.Chains.{entries_in, items_in, chain}

-- an entry by its name and its place
abbrev pub placed : Item → Name × Place
placed item = (item.name, item.place)

-- the first so many entries that come after a name; where none is given, the first so many
abbrev pub places_after : Option Name → ℕ → List Item → List (Name × Place)
places_after from most items = map placed (take most (filter (λ item. is_after from item.name) items))

-- no node is left to be read: none comes after, or no more entries are wanted
abbrev pub is_read : ℕ → ℕ → ℕ → Bool
is_read next count most = (next == 0) || nat_le most count

-- what stands at a place
abbrev pub stat_of : Blocks → Place → Stat
stat_of f (Dir block) = Stat.Dir (length (items_in f block))
stat_of f (File head size) = Stat.File size

abbrev pub with_stat : Blocks → Name × Place → Name × Stat
with_stat f entry = (entry.0, stat_of f entry.1)

-- how many nodes a directory has that a place names; a file has none
abbrev pub nodes_of : Blocks → Place → ℕ
nodes_of f (Dir block) = length (chain f block)
nodes_of f (File head size) = 0

-- the nodes of all directories among places
abbrev pub nodes_of_all : Blocks → List (Name × Place) → ℕ
nodes_of_all f places = sum_by (λ entry. nodes_of f entry.1) places

-- a directory begins in the block that a place names
abbrev pub Begins : Blocks → Place → Type 0
Begins f (Dir block) = (items : List Item) × (entries_in f block ≡ Some items)
Begins f (File head size) = Unit {0}

abbrev pub AllBegin : Blocks → List (Name × Place) → Type 0
AllBegin f places = All (λ entry. Begins f entry.1) places
