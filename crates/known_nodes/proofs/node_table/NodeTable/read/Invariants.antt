use Rattle.std.proofs.Common.{◌≡◌, ℕ, ◌+◌, ◌<◌, None, length, get_or}
use Rattle.nodes.specs.Frames.{OnlyLooks}
use Rattle.known_nodes.proofs.node_table.NodeTable.read.Given as goal

-- the nodes of the blocks so far were read, each once
abbrev pub invariant-loop-block : goal.invariant-loop-block
invariant-loop-block g l = record {
  all : length l.table.items ≡ l.block;
  nodes : (b : ℕ) → b < l.block → get_or l.table.items b None ≡ g.N.Nodes.node l.fn.nodes b;
  looks : OnlyLooks g.N.Nodes.node g.N.Nodes.kept g.N.Nodes.writes g.N.Nodes.follows g.N.Nodes.is_sound g.N.Nodes.limit g.N.Nodes.blocks l.fn.nodes l.nodes;
  reads : g.N.Nodes.reads l.nodes ≡ g.N.Nodes.reads l.fn.nodes + l.block;
}
