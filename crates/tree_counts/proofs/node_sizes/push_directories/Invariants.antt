use Rattle.std.proofs.Common.{◌≡◌, ◌++◌}
use Rattle.std.specs.List.{flat_map}
use Rattle.reclaim.specs.Naming.{item_directories}
use Rattle.tree_counts.proofs.node_sizes.push_directories.Given as goal

-- the directories so far, and those of the entries that are left
abbrev pub invariant-loop-entry : goal.invariant-loop-entry
invariant-loop-entry l = l.leads.items ++ flat_map item_directories l.entry-iterator ≡ l.initial.leads.items ++ flat_map item_directories l.fn.list
