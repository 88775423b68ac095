use Rattle.std.proofs.Common.{◌≡◌, ◌+◌, ◌-◌, ◌*◌, ◌≤◌, ◌⊎◌, Ok, length, drop}
use Rattle.fs_types.specs.declared.limits.TheConstants.{NODE_ENTRIES}
use Rattle.plain_trees.specs.Trees.{nodes_for}
use Rattle.nodes.specs.Faults.{IsWriteFault}
use Rattle.nodes.specs.Words.{WorksWithin}
use Rattle.directory.specs.Written.{PutsBefore}
use Rattle.directory.proofs.list_writes.write_list.Given as goal

-- the groups from this one on are written
abbrev pub invariant-loop-group : goal.invariant-loop-group
invariant-loop-group g l = record {
  full : (l.to ≡ 0) ⊎ (NODE_ENTRIES * l.group ≤ length l.list);
  from : 1 ≤ l.group;
  within : l.group ≤ nodes_for (length l.list);
  put : PutsBefore (g.N.Nodes.node l.fn.nodes) (g.N.Nodes.kept l.fn.nodes) (g.N.Nodes.node l.nodes) (g.N.Nodes.kept l.nodes) (nodes_for (length l.list) - l.group) l.fn.tail l.to (drop (NODE_ENTRIES * l.group) l.list);
  calls : WorksWithin g.N.Nodes IsWriteFault 0 (nodes_for (length l.list) - l.group) l.fn.nodes (Ok l.to) l.nodes;
  reads : g.N.Nodes.reads l.nodes ≡ g.N.Nodes.reads l.fn.nodes;
  written : g.N.Nodes.writes l.nodes + l.group ≡ g.N.Nodes.writes l.fn.nodes + nodes_for (length l.list);
}
