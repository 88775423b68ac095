use Rattle.std.proofs.Common.{◌≡◌, ℕ, ◌+◌, ◌≤◌, List, length, take}
use Rattle.nodes.specs.Reached.{Reached}
use Rattle.nodes.specs.Frames.{OnlyLooks}
use Rattle.reclaim.specs.Passes.{AreReached}
use Rattle.tree_counts.specs.Counted.{AreSizes, StillHas, IsGoneTo}
use Rattle.tree_counts.proofs.Gone.{AreDoneBut, size_to}
use Rattle.tree_counts.proofs.node_sizes.+size_from.Given as goal

abbrev pub decreases-size_from : goal.decreases-size_from
decreases-size_from g l = l.steps

-- the first of the blocks that this one leads to were gone over
abbrev pub invariant-loop-lead : goal.invariant-loop-lead
invariant-loop-lead g l = record {
  size : l.size ≡ size_to (g.N.Nodes.node l.fn.nodes) l.block (take l.lead-index l.lead-items);
  sizes : AreSizes (g.N.Nodes.node l.fn.nodes) (g.N.Nodes.blocks l.fn.nodes) l.sizes;
  stays : StillHas l.fn.sizes l.sizes;
  done : AreDoneBut l.block l.fn.sizes l.sizes;
  looks : OnlyLooks g.N.Nodes.node g.N.Nodes.kept g.N.Nodes.writes g.N.Nodes.follows g.N.Nodes.is_sound g.N.Nodes.limit g.N.Nodes.blocks l.fn.nodes l.nodes;
  reads : g.N.Nodes.reads l.nodes + length l.fn.sizes.read.items ≤ g.N.Nodes.reads l.fn.nodes + length l.sizes.read.items;
  reached : (roots : List ℕ) → Reached (g.N.Nodes.node l.fn.nodes) roots l.block → IsGoneTo (g.N.Nodes.node l.fn.nodes) roots l.fn.sizes l.block → AreReached (g.N.Nodes.node l.fn.nodes) roots l.sizes.read.items;
}
