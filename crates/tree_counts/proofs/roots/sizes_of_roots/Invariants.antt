use Rattle.std.proofs.Common.{◌≡◌, ◌+◌, ◌≤◌, ◌-◌, length, map, take}
use Rattle.nodes.specs.Trees.{root_tree}
use Rattle.node_format.specs.Headers.{body_header}
use Rattle.nodes.specs.Frames.{OnlyLooks}
use Rattle.reclaim.specs.Passes.{AreReached}
use Rattle.tree_counts.specs.Counted.{AreSizes}
use Rattle.tree_counts.specs.Sizes.{size_of}
use Rattle.tree_counts.proofs.Gone.{AreAllFound}
use Rattle.tree_counts.proofs.roots.sizes_of_roots.Given as goal

-- the first roots were gone over: all that was read is reached and found
abbrev pub invariant-loop-root : goal.invariant-loop-root
invariant-loop-root g l = record {
  sizes : l.sizes.items ≡ map (λ root. size_of (root_tree (g.N.Nodes.limit l.fn.nodes - body_header) (g.N.Nodes.node l.fn.nodes) root)) (take l.root-index l.roots);
  table : AreSizes (g.N.Nodes.node l.fn.nodes) (g.N.Nodes.blocks l.fn.nodes) l.table;
  found : AreAllFound l.table;
  reached : AreReached (g.N.Nodes.node l.fn.nodes) l.roots l.table.read.items;
  reads : g.N.Nodes.reads l.nodes ≤ g.N.Nodes.reads l.fn.nodes + length l.table.read.items;
  looks : OnlyLooks g.N.Nodes.node g.N.Nodes.kept g.N.Nodes.writes g.N.Nodes.follows g.N.Nodes.is_sound g.N.Nodes.limit g.N.Nodes.blocks l.fn.nodes l.nodes;
}
