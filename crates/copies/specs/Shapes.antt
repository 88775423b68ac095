-- How what stands in a tree looks, so that what moved is found.
use Rattle.std.specs.Prelude.{ℕ, ◌*◌, ◌%◌, List, Option, Some, drop, length, fold, bit_xor}
use Rattle.std.specs.Int.{to_le_bytes, w64}
use Rattle.fs_types.specs.Names.{Name, Path}
use Rattle.fs_types.specs.declared.call.Stat.{Stat}
use Rattle.fs_types.specs.declared.limits.TheConstants.{MAX_NAMES}
use Rattle.std.specs.FinMap.{get}
use Rattle.plain_trees.specs.Contents.{Entry}
use Rattle.plain_trees.specs.Trees.{Tree}
use Rattle.inquiries.specs.Items.{items_below}
use Rattle.inquiries.specs.declared.items.Item.{Item}

-- a byte more (the hash FNV-1a of 64 bits)
unfoldable pub with_byte : ℕ → ℕ → ℕ
with_byte shape byte = (bit_xor shape byte * 0x100000001b3) % 0x10000000000000000

-- bytes more
unfoldable pub with_bytes : ℕ → List ℕ → ℕ
with_bytes shape bytes = fold with_byte shape bytes

-- those of nothing
abbrev pub no_shape : ℕ
no_shape = 0xcbf29ce484222325

-- a number more
abbrev pub with_number : ℕ → ℕ → ℕ
with_number shape number = with_bytes shape (to_le_bytes w64 number)

-- a name of a path more, with a `/` before it
abbrev pub with_name : ℕ → Name → ℕ
with_name shape name = with_bytes (with_byte shape 47) name

-- a kind and a size more
abbrev pub with_stat : ℕ → Stat → ℕ
with_stat shape (Stat.Dir entries) = with_number (with_byte shape 100) entries
with_stat shape (Stat.File bytes) = with_number (with_byte shape 102) bytes

-- what stands at a path more: the names of the path after so many, the kind and the size
abbrev pub with_item : ℕ → ℕ → Item → ℕ
with_item above shape item = with_stat (fold with_name shape (drop above item.path)) item.stat

-- how what stands at a path looks: a file by its bytes, a directory by the names, kinds and sizes of what stands below it
abbrev pub shape_by : Tree → Path → Option Entry → ℕ
shape_by t path (Some (Entry.File bytes)) = with_bytes no_shape bytes
shape_by t path entry = fold (with_item (length path)) (with_byte no_shape 47) (items_below t MAX_NAMES path)

abbrev pub shape_at : Tree → Path → ℕ
shape_at t path = shape_by t path (get t path)
