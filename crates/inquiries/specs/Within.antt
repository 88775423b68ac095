-- What differs below a directory, and files that differ in length.
use Rattle.std.specs.Prelude.{Bool, false, not, ◌&&◌, ◌==◌, Option, Some, length, nat_lt}
use Rattle.std.specs.List.{starts_with}
use Rattle.fs_types.specs.Names.{Path, same_name}
use Rattle.fs_types.specs.declared.call.Stat.{Stat}
use Rattle.plain_trees.specs.Trees.{Tree}
use Rattle.inquiries.specs.Differences.{item_beside}
use Rattle.inquiries.specs.PathHistories.{is_filled}
use Rattle.inquiries.specs.declared.items.Item.{Item}
use Rattle.inquiries.specs.declared.printing.Side.{Side}

-- a path goes on from that of a directory, by one name or more
abbrev pub is_below : Path → Path → Bool
is_below directory path = nat_lt (length directory) (length path) && starts_with same_name path directory

-- what stands in one tree below a directory has a line beside another one
abbrev pub tells_below : Side → Tree → Tree → Path → Item → Bool
tells_below side t other directory item = is_below directory item.path && is_filled (item_beside side t other item)

-- two files have other lengths, so they have other bytes
abbrev pub have_other_lengths : Option Stat → Option Stat → Bool
have_other_lengths (Some (Stat.File bytes)) (Some (Stat.File others)) = not (bytes == others)
have_other_lengths _ _ = false
