-- What is printed of trees.
use Rattle.std.specs.Prelude.{ℕ, ◌^◌, nat_lt, Option, Some, None, List, ◌++◌, length, sum_by, decimal, codes, if◌then◌else◌}
use Rattle.std.specs.List.{flat_map}
use Rattle.fs_types.specs.Names.{Name, Path}
use Rattle.fs_types.specs.declared.call.Stat.{Stat}
use Rattle.plain_trees.specs.Trees.{Tree}
use Rattle.script.specs.Replies.{escaped}
use Rattle.tree_counts.specs.declared.tree_size.TreeSize.{TreeSize}
use Rattle.inquiries.specs.Items.{items_at, items_of}
use Rattle.inquiries.specs.declared.items.Item.{Item}

-- a name with `/` before it, spelled as in a script
abbrev pub slashed : Name → List ℕ
slashed name = codes "/" ++ escaped name

abbrev pub path_text : Path → List ℕ
path_text path = flat_map slashed path

-- `/` after a directory, and its length after a file
abbrev pub stat_mark : Stat → List ℕ
stat_mark (Stat.Dir entries) = codes "/"
stat_mark (Stat.File bytes) = codes " " ++ decimal bytes

abbrev pub item_line : Item → List ℕ
item_line item = path_text item.path ++ stat_mark item.stat ++ codes "\n"

-- how many bytes a file has; none for a directory
abbrev pub stat_bytes : Stat → ℕ
stat_bytes (Stat.Dir entries) = 0
stat_bytes (Stat.File bytes) = bytes

abbrev pub file_bytes : Item → ℕ
file_bytes item = stat_bytes item.stat

-- a number, or that it is past the greatest that a word holds
abbrev pub count_text : ℕ → List ℕ
count_text n = if nat_lt n (2 ^ 64) then decimal n else codes ">18446744073709551615"

-- how many directories and files these are, and how many bytes the files have
abbrev pub sizes_text : List Item → List ℕ
sizes_text items = codes " entries " ++ count_text (length items) ++ codes " bytes " ++ count_text (sum_by file_bytes items)

-- the same of a number that a word holds, if it does
abbrev pub word_text : Option ℕ → List ℕ
word_text (Some n) = decimal n
word_text None = codes ">18446744073709551615"

abbrev pub size_text : TreeSize → List ℕ
size_text size = codes " entries " ++ word_text size.entries ++ codes " bytes " ++ word_text size.bytes

-- a line for each directory and each file
abbrev pub tree_lines : Tree → List ℕ
tree_lines t = flat_map item_line (items_of t)

-- a line for each entry of a directory, or for the file that stands there
abbrev pub list_lines : Tree → Path → List ℕ
list_lines t path = flat_map item_line (items_at t path)
