-- The spelling of a directory's entries, and how they are read; numbers are little-endian.
use Rattle.std.specs.Prelude.{◌≡◌, ℕ, zero, suc, ◌==◌, Bool, true, false, nat_lt, nat_le, Option, Some, None, List, [], ◌∷◌, ◌++◌, length, take, drop, if◌then◌else◌}
use Rattle.std.specs.Option.{option_map_or}
use Rattle.std.specs.List.{flat_map}
use Rattle.byteorder.specs.Endian.{little_bytes}
use Rattle.fields.specs.Numbers.{◌>>=◌, byte_at, number_at}
use Rattle.fs_types.specs.declared.limits.TheConstants.{NODE_ENTRIES, MAX_FILE_BYTES}
use Rattle.fs_types.specs.Names.{Name, is_name}
use Rattle.node_format.specs.Items.{Item, is_before, are_entries}
use Rattle.node_format.specs.declared.place.Place.{Place}
use Rattle.node_format.specs.declared.place.Place.TheVariants.{Dir, File}

-- an entry's first byte: 1 for a file, 2 for a directory
abbrev pub kind_of : Place → ℕ
kind_of (File head size) = 1
kind_of (Dir block) = 2

-- the block of a file's head, or of a directory's first node
abbrev pub head_of : Place → ℕ
head_of (File head size) = head
head_of (Dir block) = block

-- a file's length; 0 for a directory
abbrev pub size_of : Place → ℕ
size_of (File head size) = size
size_of (Dir block) = 0

-- the spelling of an entry: kind, length of the name, name, head, length
abbrev pub item_bytes : Item → List ℕ
item_bytes item = (kind_of item.place ∷ length item.name ∷ []) ++ (item.name ++ (little_bytes 4 (head_of item.place) ++ little_bytes 4 (size_of item.place)))

-- the spelling of entries, one after the other
abbrev pub items_bytes : List Item → List ℕ
items_bytes items = flat_map item_bytes items

-- a lawful name of so many bytes, and the bytes after it
abbrev pub name_at : ℕ → List ℕ → Option (Name × List ℕ)
name_at size bytes = if nat_lt (length bytes) size then None else if is_name (take size bytes) then Some (take size bytes, drop size bytes) else None

-- the place of these fields
abbrev pub place_at : ℕ → ℕ → ℕ → Option Place
place_at kind head size =
    if kind == 1 then (if nat_le size MAX_FILE_BYTES then Some (File head size) else None)
    else if kind == 2 then (if size == 0 then Some (Dir head) else None)
    else None

-- an entry, and the bytes after it
unfoldable pub item_at : List ℕ → Option (Item × List ℕ)
item_at bytes = do
  kind ← byte_at bytes
  size ← byte_at kind.1
  name ← name_at size.0 size.1
  head ← number_at 4 name.1
  length ← number_at 4 head.1
  place ← place_at kind.0 head.0 length.0
  Some (record { name = name.0; place = place }, length.1)

-- so many entries, as far as they can be read
unfoldable pub items_at : ℕ → List ℕ → List Item
items_at zero bytes = []
items_at (suc count) bytes = option_map_or (λ read. read.0 ∷ items_at count read.1) (item_at bytes) []

-- so many entries fill the bytes, and their names ascend from one on
unfoldable pub are_filled : ℕ → Name → List ℕ → Bool
are_filled zero before bytes = length bytes == 0
are_filled (suc count) before bytes = option_map_or (λ read. if is_before before read.0.name then are_filled count read.0.name read.1 else false) (item_at bytes) false

-- the entries of the node whose header says so many entries and used bytes
unfoldable pub entries_at : ℕ → ℕ → List ℕ → Option (List Item)
entries_at count used bytes =
    if nat_lt NODE_ENTRIES count then None
    else if used == length bytes then (if are_filled count [] bytes then Some (items_at count bytes) else None)
    else None

-- entries of a directory, so many, and their spelling
pub record AreSpelled (count : ℕ) (bytes : List ℕ) (items : List Item) : Type 0 where
  pub lawful : are_entries items ≡ true
  pub counted : length items ≡ count
  pub spelled : bytes ≡ items_bytes items
