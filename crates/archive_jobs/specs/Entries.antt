-- What stands in a tree, as the entries of an archive.
use Rattle.std.specs.Prelude.{Bool, Option, Some, List, map, is_some}
use Rattle.std.specs.FinMap.{get}
use Rattle.plain_trees.specs.Contents.{Entry}
use Rattle.plain_trees.specs.Trees.{Tree}
use Rattle.inquiries.specs.Items.{items_of}
use Rattle.inquiries.specs.declared.items.Item.{Item}
use Rattle.tar_format.specs.Headers.{name_of, parts_of}
use Rattle.archives.specs.declared.archive_entry.ArchiveEntry.{ArchiveEntry}
use Rattle.archives.specs.declared.archive_entry.Contents.{Contents}

-- a file has its bytes
abbrev pub contents_by : Option Entry → Contents
contents_by (Some (Entry.File bytes)) = Contents.File bytes
contents_by _ = Contents.Folder

abbrev pub entry_of : Tree → Item → ArchiveEntry
entry_of t item = record { path = item.path; contents = contents_by (get t item.path) }

-- all that stands below the root, in the order in which the tree is told
abbrev pub tree_entries : Tree → List ArchiveEntry
tree_entries t = map (entry_of t) (items_of t)

-- the format has room for the path of an item
abbrev pub has_room_for : Item → Bool
has_room_for item = is_some (parts_of (name_of item.path))
