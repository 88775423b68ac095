use Rattle.std.proofs.Common.{◌≡◌, ◌++◌, ◌-◌, take}
use Rattle.std.specs.List.{flat_map}
use Rattle.plain_trees.specs.Trees.{children}
use Rattle.history_machine.specs.Machine.{view_tree}
use Rattle.inquiries.specs.Readings.{shown, IsUnchanged}
use Rattle.inquiries.proofs.Entries.{row}
use Rattle.inquiries.proofs.items.+add_items.Given as goal

abbrev pub decreases-add_items : goal.decreases-add_items
decreases-add_items g l = l.levels

abbrev pub invariant-loop-name : goal.invariant-loop-name
invariant-loop-name g l = IsUnchanged l.fn.fs l.fs × (l.items.items ≡ l.fn.items.items ++ flat_map (row (view_tree (shown l.fn.fs) l.view) (l.levels - 1) l.directory) (take l.name-index (children (view_tree (shown l.fn.fs) l.view) l.directory)))
