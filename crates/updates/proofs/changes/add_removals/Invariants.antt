use Rattle.std.proofs.Common.{◌≡◌, ◌++◌, take}
use Rattle.std.specs.Prelude.{All}
use Rattle.std.specs.List.{flat_map}
use Rattle.plain_trees.specs.Trees.{Tree}
use Rattle.history_machine.specs.Machine.{view_tree}
use Rattle.inquiries.specs.Items.{IsItemOf}
use Rattle.inquiries.specs.Readings.{shown, IsUnchanged}
use Rattle.updates.specs.Changes.{removal_of}
use Rattle.updates.proofs.changes.add_removals.Given as goal

abbrev pub invariant-loop-item : goal.invariant-loop-item
invariant-loop-item g l = IsUnchanged l.fn.second l.second
    × ((t : Tree) → All (IsItemOf t) l.olds → l.calls.items ≡ l.fn.calls.items ++ flat_map (removal_of t (view_tree (shown l.fn.second) l.view)) (take l.item-index l.olds))
