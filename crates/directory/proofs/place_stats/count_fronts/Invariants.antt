use Rattle.std.proofs.Common.{◌≤◌, ◌-◌, ◌+◌, ◌*◌}
use Rattle.fs_types.specs.declared.limits.TheConstants.{NODE_ENTRIES}
use Rattle.nodes.specs.Words.{Looks}
use Rattle.nodes.specs.Chains.{most_after}
use Rattle.directory.proofs.Listed.{HasCounted}
use Rattle.directory.proofs.place_stats.count_fronts.Given as goal

-- the entries of the nodes so far
abbrev pub invariant-loop : goal.invariant-loop
invariant-loop g l = record {
  walk : HasCounted (g.N.Nodes.node l.fn.nodes) l.fn.block (most_after - l.counter) l.next (l.counter + 1) l.count;
  few : l.count ≤ NODE_ENTRIES * (l.counter + 1);
  asks : g.N.Nodes.asked l.nodes ≤ g.N.Nodes.asked l.fn.nodes + (l.counter + 1);
  looks : Looks g.N.Nodes l.fn.nodes l.nodes;
}
