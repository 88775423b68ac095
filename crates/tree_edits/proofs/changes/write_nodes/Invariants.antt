use Rattle.std.proofs.Common.{◌≡◌, ◌+◌, ◌-◌, ◌*◌, length, min}
use Rattle.nodes.specs.Words.{Works}
use Rattle.tree_edits.specs.Writing as spec
use Rattle.tree_edits.specs.Writing.{IsTable}
use Rattle.tree_edits.proofs.Counted.{AreFew}
use Rattle.tree_edits.proofs.Growth.{IsBegun}
use Rattle.tree_edits.proofs.changes.write_nodes.Given as goal

-- the bytes wanted stand in a body up to the node at hand, and a node was written for each index so far
abbrev pub invariant-loop-index : goal.invariant-loop-index
invariant-loop-index g l = record {
  begun : IsBegun l.change.capacity (g.N.Nodes.node l.fn.nodes) (g.N.Nodes.kept l.fn.nodes) l.change.body
      (spec.bytes_after (g.N.Nodes.node l.fn.nodes) l.change l.bytes)
      (g.N.Nodes.node l.nodes) (g.N.Nodes.kept l.nodes) l.head (min (l.index * l.change.capacity) l.change.size);
  table : IsTable (g.N.Nodes.node l.nodes) l.head l.index l.last l.table.blocks;
  reads : AreFew l.change.capacity l.change.body.length (l.change.offset + length l.bytes) l.first l.index (g.N.Nodes.reads l.fn.nodes) (g.N.Nodes.reads l.nodes);
  writes : g.N.Nodes.writes l.nodes ≡ g.N.Nodes.writes l.fn.nodes + (l.index - l.first);
  works : Works g.N.Nodes l.fn.nodes l.nodes;
}
