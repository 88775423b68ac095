use Rattle.tree_counts.proofs.Weights.{AreSummed}
use Rattle.tree_counts.proofs.node_sizes.size_of_entries.Given as goal

-- the entries so far, beside those that are left
abbrev pub invariant-loop-entry : goal.invariant-loop-entry
invariant-loop-entry l = AreSummed l.size l.entry-iterator l.fn.list
