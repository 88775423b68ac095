use Rattle.std.proofs.Common.{◌≡◌, ℕ, ◌+◌, ◌*◌, ◌≤◌, take, min}
use Rattle.nodes.specs.Bodies.{body, head_index}
use Rattle.nodes.specs.Words.{Looks}
use Rattle.nodes.specs.PageCounts.{pages_for}
use Rattle.tree_edits.specs.Reading.{AsksPageEach, HasDigits}
use Rattle.tree_edits.proofs.comparisons.has_all.Given as goal

-- the bytes of the nodes so far are the same, and for each the way to it and its pages were read
abbrev pub invariant-loop-index : goal.invariant-loop-index
invariant-loop-index g l = record {
  same : take (min (l.index * l.capacity) l.body.length) (body l.capacity (g.N.Nodes.node l.fn.nodes) l.body.head l.body.length)
      ≡ take (min (l.index * l.capacity) l.body.length) l.bytes;
  reads : (digits : ℕ) → HasDigits (head_index l.capacity l.body.length) digits
      → g.N.Nodes.reads l.nodes ≤ g.N.Nodes.reads l.fn.nodes + l.index * (pages_for (g.N.Nodes.page l.fn.nodes) (g.N.Nodes.limit l.fn.nodes) + 2 * digits);
  asks : AsksPageEach g.N.Nodes.asked g.N.Nodes.reads l.fn.nodes l.nodes;
  looks : Looks g.N.Nodes l.fn.nodes l.nodes;
}
