-- Many entries of a directory put at once.
use Rattle.std.specs.Prelude.{◌≡◌, ℕ, ◌+◌, ◌≤◌, true, Option, Some, is_none, List, [], ◌∷◌, length, count_by, All, if◌then◌else◌}
use Rattle.fs_types.specs.Names.{Name, same_name}
use Rattle.fs_types.specs.declared.limits.TheConstants.{MAX_ENTRIES}
use Rattle.node_format.specs.Items.{Item, are_entries, is_place, named_place}
use Rattle.node_format.specs.declared.place.Place.{Place}
use Rattle.node_format.specs.declared.place.Place.TheVariants.{Dir}
use Rattle.nodes.specs.Bodies.{Blocks}
use Rattle.nodes.specs.Trees.{child, entries_in}
use Rattle.directory.specs.declared.directory_puts.NamedPlace.{NamedPlace}

-- what a name leads to once names were put in order, which led to this before
abbrev pub place_after : List NamedPlace → Name → Option Place → Option Place
place_after [] name was = was
place_after (put ∷ puts) name was = place_after puts name (if same_name put.name.now name then Some put.place else was)

-- so many of the names are missing
abbrev pub count_missing : List Item → List NamedPlace → ℕ
count_missing items puts = count_by (λ put. is_none (named_place items put.name.now)) puts

-- there is room in a directory for the names that are missing, and each leads to a place
pub record HasRoomFor (items : List Item) (puts : List NamedPlace) : Type 0 where
  pub room : length items + count_missing items puts ≤ MAX_ENTRIES
  pub places : All (λ put. is_place put.place ≡ true) puts

-- the new entries are a directory's; each name leads to its place, and all others lead where they did
pub record IsPutEach (old : List Item) (puts : List NamedPlace) (new : List Item) : Type 0 where
  pub lawful : are_entries new ≡ true
  pub counted : length new ≤ length old + count_missing old puts
  pub leads : (name : Name) → named_place new name ≡ place_after puts name (named_place old name)

-- the directory at `to` has the entries of the one at `from`, but that each of these names leads to its place
abbrev pub IsDirectoryPut : Blocks → Blocks → ℕ → ℕ → List NamedPlace → Type 0
IsDirectoryPut old new from to puts =
    (items : List Item) × (entries_in new to ≡ Some items) × ((name : Name) → named_place items name ≡ place_after puts name (child old (Dir from) name))
