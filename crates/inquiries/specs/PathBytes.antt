-- How many bytes paths have.
use Rattle.std.specs.Prelude.{◌≤◌, ℕ, ◌+◌, length, sum_by}
use Rattle.fs_types.specs.Names.{Path}
use Rattle.plain_trees.specs.Trees.{Tree}
use Rattle.inquiries.specs.Items.{items_of}
use Rattle.inquiries.specs.declared.items.Item.{Item}
use Rattle.inquiries.specs.declared.tell_fault.TheConstants.{MAX_PATH_BYTES}

-- how many bytes a path has, with a `/` before each name
abbrev pub path_bytes : Path → ℕ
path_bytes path = sum_by (λ name. length name + 1) path

abbrev pub item_bytes : Item → ℕ
item_bytes item = path_bytes item.path

-- the paths of all that stands in a tree have no more bytes together than are kept
abbrev pub HasShortPaths : Tree → Type 0
HasShortPaths t = sum_by item_bytes (items_of t) ≤ MAX_PATH_BYTES
