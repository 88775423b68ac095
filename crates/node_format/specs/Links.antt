-- One node of a directory: its entries, and the block of the node after it.
use Rattle.std.specs.Prelude.{◌≡◌, ℕ, zero, suc, ◌==◌, ◌^◌, ◌<◌, ◌≤◌, ◌⊎◌, ◌||◌, Bool, true, false, nat_lt, Option, Some, None, List, [], ◌++◌, length, drop, codes, slice_get, if◌then◌else◌}
use Rattle.std.specs.Option.{option_map, option_map_or}
use Rattle.byteorder.specs.Endian.{little_bytes}
use Rattle.fs_types.specs.declared.limits.TheConstants.{NODE_ENTRIES}
use Rattle.fs_types.specs.Names.{Name}
use Rattle.node_format.specs.Headers.{field, directory_header, directory_magic, chain_magic}
use Rattle.node_format.specs.Items.{Item, are_entries}
use Rattle.node_format.specs.Directories.{item_at, entries_at, items_bytes}

-- whether the node is one of a chain, its entries, and the block of the node after it, 0 where none comes
pub record Link : Type 0 where
  pub chained : Bool
  pub items : List Item
  pub next : ℕ

abbrev pub link : Bool → ℕ → List Item → Link
link chained next items = record { chained = chained; items = items; next = next }

-- the name of the first entry of a node of a chain; none where it has no entry, or stands alone
abbrev pub first_of : Link → Option Name
first_of link = if link.chained then option_map (λ item. item.name) (slice_get link.items 0) else None

-- a node that another comes after is full
abbrev pub may_go_on : ℕ → ℕ → Bool
may_go_on next count = (next == 0) || (count == NODE_ENTRIES)

-- what the bytes say, as a node of a directory: one that stands alone, or one of a chain
unfoldable pub link_at : List ℕ → Option Link
link_at bytes =
    if nat_lt (length bytes) directory_header then None
    else if field bytes 0 == directory_magic then option_map (link false 0) (entries_at (field bytes 4) (field bytes 8) (drop directory_header bytes))
    else if field bytes 0 == chain_magic then
    (if may_go_on (field bytes 12) (field bytes 4) then option_map (link true (field bytes 12)) (entries_at (field bytes 4) (field bytes 8) (drop directory_header bytes)) else None)
    else None

-- how many entries the header says that a node of a directory has, and the block of the node after it; none where the
-- bytes do not begin as such a node
abbrev pub header_says : List ℕ → Option (ℕ × ℕ)
header_says bytes =
    if nat_lt (length bytes) directory_header then None
    else if nat_lt NODE_ENTRIES (field bytes 4) then None
    else if field bytes 0 == directory_magic then Some (field bytes 4, 0)
    else if field bytes 0 == chain_magic then Some (field bytes 4, field bytes 12)
    else None

-- the spelling of a node: magic, count of entries, used bytes, four bytes more, entries
abbrev pub node_bytes : List ℕ → List ℕ → List Item → List ℕ
node_bytes magic more items = magic ++ (little_bytes 4 (length items) ++ (little_bytes 4 (length (items_bytes items)) ++ (more ++ items_bytes items)))

-- of a node that stands alone, with four bytes that are not looked at
abbrev pub directory_bytes : List ℕ → List Item → List ℕ
directory_bytes unread items = node_bytes (codes "UFND") unread items

-- of a node of a chain, with the block of the node after it
abbrev pub chain_bytes : ℕ → List Item → List ℕ
chain_bytes next items = node_bytes (codes "UFNE") (little_bytes 4 next) items

-- the bytes are those of a node that stands alone
pub record IsAlone (bytes : List ℕ) (l : Link) : Type 0 where
  pub alone : l.chained ≡ false
  pub last : l.next ≡ 0
  pub unread : List ℕ
  pub four : length unread ≡ 4
  pub spelling : bytes ≡ directory_bytes unread l.items

-- the bytes are those of a node of a chain, which is full where another comes after it
pub record IsChained (bytes : List ℕ) (l : Link) : Type 0 where
  pub chained : l.chained ≡ true
  pub small : l.next < 2 ^ 32
  pub full : (l.next ≡ 0) ⊎ (length l.items ≡ NODE_ENTRIES)
  pub spelling : bytes ≡ chain_bytes l.next l.items

-- the bytes are those of this node of a directory
pub record IsLink (bytes : List ℕ) (l : Link) : Type 0 where
  pub lawful : are_entries l.items ≡ true
  pub few : length l.items ≤ NODE_ENTRIES
  pub spelled : IsAlone bytes l ⊎ IsChained bytes l

-- what is left of the bytes after so many entries
unfoldable pub skipped : ℕ → List ℕ → List ℕ
skipped zero bytes = bytes
skipped (suc count) bytes = option_map_or (λ read. skipped count read.1) (item_at bytes) []
