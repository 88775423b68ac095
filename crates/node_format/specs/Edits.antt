-- How entries lie around a name, and entries with one of them changed.
use Rattle.std.specs.Prelude.{◌≡◌, ℕ, ◌+◌, ◌-◌, true, length, take, Option, Some, None, List, [], ◌∷◌, ◌++◌, if◌then◌else◌}
use Rattle.std.specs.List.{list_all}
use Rattle.fs_types.specs.Names.{Name, same_name}
use Rattle.node_format.specs.Items.{Item, is_before, are_entries, named_place}
use Rattle.node_format.specs.Directories.{items_at, AreSpelled}
use Rattle.node_format.specs.declared.place.Place.{Place}

-- the bytes before the others are the spelling of so many entries
abbrev pub AreFront : ℕ → List ℕ → List ℕ → Type 0
AreFront count bytes others = AreSpelled count (take (length bytes - length others) bytes) (items_at count (take (length bytes - length others) bytes))

-- the entry of a name that leads to a place, or none
abbrev pub entry_to : Name → Option Place → List Item
entry_to name None = []
entry_to name (Some place) = (record { name = name; place = place }) ∷ []

-- the entries are those before a name, the one of the name if it leads somewhere, and those after it
pub record IsSplit (items : List Item) (name : Name) (front : List Item) (found : Option Place) (back : List Item) : Type 0 where
  pub parts : items ≡ front ++ (entry_to name found ++ back)
  pub before : list_all (λ item. is_before item.name name) front ≡ true
  pub after : list_all (λ item. is_before name item.name) back ≡ true

-- how many entries there are then: one more where a missing name is put, one fewer where the name goes
abbrev pub edited_count : Option Place → Option Place → ℕ → ℕ
edited_count None None count = count
edited_count None (Some place) count = count + 1
edited_count (Some was) None count = count - 1
edited_count (Some was) (Some place) count = count

-- the new entries are a directory's; the name leads to the place, or nowhere, and all others lead where they did
pub record IsEdited (old : List Item) (name : Name) (place : Option Place) (new : List Item) : Type 0 where
  pub lawful : are_entries new ≡ true
  pub counted : length new ≡ edited_count (named_place old name) place (length old)
  pub leads : (other : Name) → named_place new other ≡ (if same_name name other then place else named_place old other)
