-- The entries of a directory: names in byte order, each with what it names.
use Rattle.std.specs.Prelude.{◌^◌, Bool, true, false, ◌&&◌, nat_lt, nat_le, Option, Some, None, List, [], ◌∷◌, length, if◌then◌else◌}
use Rattle.std.specs.List.{list_all}
use Rattle.std.specs.Ordering.{is_lt}
use Rattle.fs_types.specs.declared.limits.TheConstants.{MAX_ENTRIES, MAX_FILE_BYTES}
use Rattle.fs_types.specs.Names.{Name, is_name, same_name, name_cmp}
use Rattle.node_format.specs.declared.place.Place.{Place}
use Rattle.node_format.specs.declared.place.Place.TheVariants.{Dir, File}

-- an entry of a directory: a name, and the place that it names
pub record Item : Type 0 where
  pub name : Name
  pub place : Place

-- a place has numbers of four bytes, and a file is not too long
abbrev pub is_place : Place → Bool
is_place (Dir block) = nat_lt block (2 ^ 32)
is_place (File head size) = nat_lt head (2 ^ 32) && nat_le size MAX_FILE_BYTES

abbrev pub is_dir_place : Place → Bool
is_dir_place (Dir block) = true
is_dir_place (File head size) = false

-- an entry has a lawful name and a place
abbrev pub is_item : Item → Bool
is_item item = is_name item.name && is_place item.place

-- the first name comes before the second in byte order
abbrev pub is_before : Name → Name → Bool
is_before a b = is_lt (name_cmp a b)

-- each name comes before all later ones
abbrev pub are_ascending : List Item → Bool
are_ascending [] = true
are_ascending (item ∷ items) = list_all (λ other. is_before item.name other.name) items && are_ascending items

-- the entries of a directory: at most 1,024, each lawful, in strict byte order
abbrev pub are_entries : List Item → Bool
are_entries items = nat_le (length items) MAX_ENTRIES && (list_all is_item items && are_ascending items)

-- the place that a name leads to
abbrev pub named_place : List Item → Name → Option Place
named_place [] name = None
named_place (item ∷ items) name = if same_name item.name name then Some item.place else named_place items name
