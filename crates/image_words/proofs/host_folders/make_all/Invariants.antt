use Rattle.std.proofs.Common.{List, ◌++◌, map, take}
use Rattle.history_machine.specs.Machine.{view_tree}
use Rattle.host_interface.specs.Files.{new_name}
use Rattle.host_interface.specs.Folders.{Made, KeepsOutside}
use Rattle.inquiries.specs.Readings.{shown, IsUnchanged}
use Rattle.image_words.specs.PathCopies.{made_of}
use Rattle.image_words.proofs.host_folders.make_all.Given as goal

abbrev pub invariant-loop-item : goal.invariant-loop-item
invariant-loop-item g l = IsUnchanged l.fn.fs l.fs
    × ((all : List Made) → g.H.Folders.made l.fn.files l.name all → g.H.Folders.made l.files l.name (all ++ map (made_of (view_tree (shown l.fn.fs) l.view) l.skipped) (take l.item-index l.items)))
    × KeepsOutside (new_name l.name) (g.H.ImageFiles.held l.fn.files) (g.H.ImageFiles.held l.files)
