-- What differs between two trees.
use Rattle.std.specs.Prelude.{ℕ, Option, Some, List, [], ◌++◌, codes, if◌then◌else◌}
use Rattle.std.specs.FinMap.{get}
use Rattle.std.specs.List.{flat_map}
use Rattle.std.specs.Str.{bytes_eq}
use Rattle.fs_types.specs.Names.{Path}
use Rattle.plain_trees.specs.Contents.{Entry}
use Rattle.plain_trees.specs.Trees.{Tree}
use Rattle.fs_types.specs.declared.limits.TheConstants.{MAX_NAMES}
use Rattle.inquiries.specs.Items.{items_below, items_of}
use Rattle.inquiries.specs.Printed.{path_text, item_line}
use Rattle.inquiries.specs.declared.items.Item.{Item}
use Rattle.inquiries.specs.declared.printing.Side.{Side}

-- what stands in the old tree alone went, and what stands in the new one alone came
abbrev pub side_mark : Side → List ℕ
side_mark Side.Old = codes "- "
side_mark Side.New = codes "+ "

abbrev pub changed_line : Path → List ℕ
changed_line path = codes "~ " ++ path_text path ++ codes "\n"

-- the line of a file that stands in both, if it has other bytes in the one than in the other
abbrev pub file_beside : Path → List ℕ → List ℕ → List ℕ
file_beside path bytes others = if bytes_eq bytes others then [] else changed_line path

-- what is printed of what stands in one tree, by what stands at its path there and in the other; a file and a directory are not
-- in each other's place, and a file that stands in both is told once
abbrev pub line_beside : Side → Item → Option Entry → Option Entry → List ℕ
line_beside side item (Some Entry.Dir) (Some Entry.Dir) = []
line_beside Side.Old item (Some (Entry.File bytes)) (Some (Entry.File others)) = file_beside item.path bytes others
line_beside Side.New item (Some (Entry.File bytes)) (Some (Entry.File others)) = []
line_beside side item _ _ = side_mark side ++ item_line item

abbrev pub item_beside : Side → Tree → Tree → Item → List ℕ
item_beside side t other item = line_beside side item (get t item.path) (get other item.path)

-- the lines of one tree beside another
abbrev pub lines_beside : Side → Tree → Tree → List ℕ
lines_beside side t other = flat_map (item_beside side t other) (items_of t)

-- what differs between two trees: first what went and what changed, then what came
abbrev pub difference_lines : Tree → Tree → List ℕ
difference_lines old new = lines_beside Side.Old old new ++ lines_beside Side.New new old

-- what differs below a directory of both
abbrev pub lines_below : Side → Tree → Tree → Path → List ℕ
lines_below side t other directory = flat_map (item_beside side t other) (items_below t MAX_NAMES directory)

abbrev pub difference_below : Tree → Tree → Path → List ℕ
difference_below old new directory = lines_below Side.Old old new directory ++ lines_below Side.New new old directory
