use Rattle.std.proofs.Common.{◌≡◌, ◌-◌}
use Rattle.nodes.specs.Words.{Looks}
use Rattle.node_format.specs.Headers.{body_header}
use Rattle.tree_edits.specs.Reading.{AsksPageEach}
use Rattle.tree_edits.proofs.Chains.{IsOnWay, FewReads}
use Rattle.tree_edits.proofs.range_reads.find.Given as goal

abbrev pub decreases-loop-at : goal.decreases-loop-at
decreases-loop-at g l = l.at

-- the node of an index was come to, and the hops are as few as can be
abbrev pub invariant-loop-at : goal.invariant-loop-at
invariant-loop-at g l = record {
  way : IsOnWay (g.N.Nodes.limit l.initial.nodes - body_header) (g.N.Nodes.node l.initial.nodes) l.head l.head_index l.index l.at l.block;
  few : FewReads l.head_index l.index l.at (g.N.Nodes.reads l.initial.nodes) (g.N.Nodes.reads l.nodes);
  asks : AsksPageEach g.N.Nodes.asked g.N.Nodes.reads l.initial.nodes l.nodes;
  partly : g.N.Nodes.partly l.nodes ≡ g.N.Nodes.partly l.initial.nodes;
  still : l.head_index ≡ l.index → g.N.Nodes.reads l.nodes ≡ g.N.Nodes.reads l.initial.nodes;
  looks : Looks g.N.Nodes l.initial.nodes l.nodes;
}
