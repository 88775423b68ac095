use Rattle.std.proofs.Common.{◌≡◌, ◌-◌, Some, take}
use Rattle.std.specs.Prelude.{sum_by}
use Rattle.plain_trees.specs.Trees.{children}
use Rattle.history_machine.specs.Machine.{view_tree}
use Rattle.inquiries.specs.Listable.{IsRoomLeft}
use Rattle.inquiries.specs.Owners.{item_owners}
use Rattle.inquiries.specs.PathBytes.{item_bytes}
use Rattle.inquiries.specs.Readings.{shown, IsUnchanged}
use Rattle.inquiries.proofs.PathRoom.{entry_weight}
use Rattle.inquiries.proofs.path_room.+room_below.Given as goal

abbrev pub decreases-room_below : goal.decreases-room_below
decreases-room_below g l = l.levels

abbrev pub invariant-loop-name : goal.invariant-loop-name
invariant-loop-name g l =
    IsUnchanged l.fn.fs l.fs
    × IsRoomLeft l.fn.room (sum_by (entry_weight item_bytes (view_tree (shown l.fn.fs) l.view) (l.levels - 1) l.directory) (take l.name-index (children (view_tree (shown l.fn.fs) l.view) l.directory)))
    (sum_by (entry_weight item_owners (view_tree (shown l.fn.fs) l.view) (l.levels - 1) l.directory) (take l.name-index (children (view_tree (shown l.fn.fs) l.view) l.directory))) (Some l.left)
