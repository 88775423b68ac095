use Rattle.std.proofs.Common.{◌≡◌, false, take}
use Rattle.std.specs.List.{list_any}
use Rattle.history_machine.specs.Machine.{view_tree}
use Rattle.inquiries.specs.Readings.{shown, IsUnchanged}
use Rattle.inquiries.specs.Within.{tells_below}
use Rattle.inquiries.proofs.differences.tells_below.Given as goal

abbrev pub invariant-loop-item : goal.invariant-loop-item
invariant-loop-item g l =
    IsUnchanged l.fn.fs l.fs × (list_any (tells_below l.side (view_tree (shown l.fn.fs) l.view) (view_tree (shown l.fn.fs) l.other) l.directory) (take l.item-index l.item-items) ≡ false)
