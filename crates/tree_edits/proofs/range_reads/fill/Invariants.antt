use Rattle.std.proofs.Common.{◌≡◌, ◌≢◌, ◌+◌, ◌-◌, ◌*◌, ◌/◌, ◌%◌, ◌<◌, ◌≤◌, false, length, take, drop}
use Rattle.node_format.specs.Headers.{body_header}
use Rattle.nodes.specs.Words.{Looks}
use Rattle.nodes.specs.PageCounts.{pages_for, pages_of_range}
use Rattle.nodes.specs.Bodies.{data_to}
use Rattle.tree_edits.specs.Reading.{nodes_between}
use Rattle.tree_edits.proofs.Parts.{IsLeft}
use Rattle.tree_edits.proofs.range_reads.fill.Given as goal

abbrev pub decreases-loop-end : goal.decreases-loop-end
decreases-loop-end g l = l.end

-- what is left to read and what was filled are what is wanted
abbrev pub invariant-loop-end : goal.invariant-loop-end
invariant-loop-end g l = record {
  left : IsLeft l.capacity (g.N.Nodes.node l.initial.nodes) l.start l.end ((l.end - 1) / l.capacity) l.block l.out (take (l.initial.end - l.start) (drop l.start (data_to (g.N.Nodes.node l.initial.nodes) ((l.initial.end - 1) / l.capacity) l.initial.block)));
  below : l.end ≤ l.initial.end;
  size : length l.out ≡ l.initial.end - l.start;
  reads : g.N.Nodes.reads l.nodes + nodes_between l.capacity l.start l.end ≤ g.N.Nodes.reads l.initial.nodes + nodes_between l.capacity l.start l.initial.end;
  asks : g.N.Nodes.asked l.nodes + nodes_between l.capacity l.start l.end * pages_for (g.N.Nodes.page l.initial.nodes) (g.N.Nodes.limit l.initial.nodes)
      ≤ g.N.Nodes.asked l.initial.nodes + nodes_between l.capacity l.start l.initial.end * pages_for (g.N.Nodes.page l.initial.nodes) (g.N.Nodes.limit l.initial.nodes);
  still : l.start < l.end → l.start / l.capacity ≡ (l.initial.end - 1) / l.capacity
      → (l.block ≡ l.initial.block) × (l.end ≡ l.initial.end) × (g.N.Nodes.asked l.nodes ≡ g.N.Nodes.asked l.initial.nodes) × (g.N.Nodes.partly l.nodes ≡ g.N.Nodes.partly l.initial.nodes);
  part : l.end ≤ l.start → l.whole ≡ false → l.start / l.capacity ≡ (l.initial.end - 1) / l.capacity → g.N.Nodes.partly l.initial.nodes ≢ l.initial.block
      → g.N.Nodes.asked l.nodes ≤ g.N.Nodes.asked l.initial.nodes + pages_of_range (g.N.Nodes.page l.initial.nodes) (body_header + l.start % l.capacity) (l.initial.end - l.start);
  looks : Looks g.N.Nodes l.initial.nodes l.nodes;
}
