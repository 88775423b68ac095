use Rattle.std.proofs.Common.{◌≡◌, ◌++◌, take}
use Rattle.std.specs.List.{flat_map}
use Rattle.history_machine.specs.Machine.{view_tree, working_tree}
use Rattle.inquiries.specs.Readings.{shown, IsUnchanged}
use Rattle.updates.specs.Changes.{making_of}
use Rattle.updates.proofs.changes.add_makings.Given as goal

abbrev pub invariant-loop-item : goal.invariant-loop-item
invariant-loop-item g l = IsUnchanged l.fn.first l.first × IsUnchanged l.fn.second l.second
    × (l.calls.items ≡ l.fn.calls.items ++ flat_map (making_of l.manner (working_tree (shown l.fn.first)) (view_tree (shown l.fn.second) l.view)) (take l.item-index l.news))
