use Rattle.std.proofs.Common.{◌≡◌, ◌+◌, ◌-◌, ◌*◌, length, take, min}
use Rattle.node_format.specs.Headers.{body_header}
use Rattle.nodes.specs.Bodies.{data_of}
use Rattle.nodes.specs.Words.{Looks}
use Rattle.tree_edits.specs.Reading.{AsksPageEach}
use Rattle.tree_edits.proofs.comparisons.has_data.Given as goal

-- the bytes of the pages so far are the same, and each was read once
abbrev pub invariant-loop-place : goal.invariant-loop-place
invariant-loop-place g l = record {
  same : take (min (l.place * l.size - body_header) (length l.bytes)) (data_of (g.N.Nodes.node l.fn.nodes l.block))
      ≡ take (min (l.place * l.size - body_header) (length l.bytes)) l.bytes;
  reads : g.N.Nodes.reads l.nodes ≡ g.N.Nodes.reads l.fn.nodes + l.place;
  asks : AsksPageEach g.N.Nodes.asked g.N.Nodes.reads l.fn.nodes l.nodes;
  looks : Looks g.N.Nodes l.fn.nodes l.nodes;
}
