-- The map of the blocks as a page of HTML.
use Rattle.std.specs.Prelude.{ℕ, ◌%◌, ◌==◌, if◌then◌else◌, List, [], ◌∷◌, ◌++◌, length, codes, decimal}
use Rattle.std.specs.List.{flat_map}
use Rattle.block_usage.specs.MapTexts.{all_kinds, each_from, ends_line, meaning_of, sign_count, sign_of, sums_line}
use Rattle.block_usage.specs.declared.block_kind.BlockKind.{BlockKind}
use Rattle.block_usage.specs.declared.html_page.TheConstants.{FOOT, HEAD, LEGEND_HEAD, SUMS_HEAD}

-- the class of the cells of a kind, which has its colour
abbrev pub class_of : BlockKind → List ℕ
class_of BlockKind.NewestAnchor = codes "newest"
class_of BlockKind.Anchor = codes "anchor"
class_of BlockKind.Bad = codes "bad"
class_of BlockKind.Present = codes "present"
class_of BlockKind.Shared = codes "shared"
class_of BlockKind.Other = codes "other"
class_of BlockKind.Checkpoint = codes "checkpoint"
class_of BlockKind.Stale = codes "stale"
class_of BlockKind.Blank = codes "blank"

-- a line begins with the number of its first block
abbrev pub line_start : ℕ → List ℕ
line_start place = if place % 64 == 0 then codes "<tr><th>" ++ decimal place ++ codes "</th>" else []

abbrev pub line_end : ℕ → ℕ → List ℕ
line_end blocks place = if ends_line blocks place then codes "</tr>\n" else []

-- the cell of a block: its sign, with the class of its kind and its number
abbrev pub block_cell : ℕ → BlockKind → List ℕ
block_cell place kind = codes "<td class=" ++ class_of kind ++ codes " title=" ++ decimal place ++ codes ">" ++ sign_of kind ∷ codes "</td>"

-- the cell of the block at a place, with the start and the end of its line
abbrev pub cell_text : ℕ → ℕ → BlockKind → List ℕ
cell_text blocks place kind = line_start place ++ block_cell place kind ++ line_end blocks place

abbrev pub cells_text : List BlockKind → List ℕ
cells_text kinds = each_from (cell_text (length kinds)) 0 kinds

-- a row of the legend: the sign of a kind, how many blocks have it, and what it means
abbrev pub sign_cell : BlockKind → List ℕ
sign_cell kind = codes "<td class=" ++ class_of kind ++ codes ">" ++ sign_of kind ∷ codes "</td>"

abbrev pub legend_row : List BlockKind → BlockKind → List ℕ
legend_row kinds kind = codes "<tr>" ++ sign_cell kind ++ codes "<td>" ++ decimal (sign_count kinds (sign_of kind)) ++ codes "</td><td>" ++ meaning_of kind ++ codes "</td></tr>\n"

-- the page: the cells of all blocks, the legend and the sums, with what stands before, between and after them
abbrev pub map_page : List BlockKind → List ℕ
map_page kinds = HEAD.now ++ cells_text kinds ++ LEGEND_HEAD.now ++ flat_map (legend_row kinds) all_kinds ++ SUMS_HEAD.now ++ sums_line kinds ++ FOOT.now
