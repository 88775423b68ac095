use Rattle.std.proofs.Common.{◌≡◌, ◌++◌, ◌-◌, take}
use Rattle.std.specs.List.{flat_map}
use Rattle.nodes.specs.Words.{Looks}
use Rattle.tree_differences.proofs.Walks.{row}
use Rattle.tree_differences.proofs.differing.+add_below.Given as goal

abbrev pub decreases-add_below : goal.decreases-add_below
decreases-add_below g l = l.levels

-- what differs at the first entries, and below them
abbrev pub invariant-loop-name : goal.invariant-loop-name
invariant-loop-name g l = record {
  paths : l.paths ≡ l.fn.paths ++ flat_map (row (g.N.Nodes.node l.fn.nodes) (l.levels - 1) l.directory l.fn.other) (take l.name-index l.name-items);
  looks : Looks g.N.Nodes l.fn.nodes l.nodes;
}
