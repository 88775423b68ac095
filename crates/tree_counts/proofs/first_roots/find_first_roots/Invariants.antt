use Rattle.std.proofs.Common.{◌≡◌, ◌+◌, take}
use Rattle.nodes.specs.Frames.{OnlyLooks}
use Rattle.tree_counts.specs.RootWalks.{IsWalked}
use Rattle.tree_counts.proofs.first_roots.find_first_roots.Given as goal

-- the first roots were walked from
abbrev pub invariant-loop-place : goal.invariant-loop-place
invariant-loop-place g l = record {
  walked : IsWalked (g.N.Nodes.limit l.nodes) (g.N.Nodes.node l.nodes) l.pass l.firsts.items;
  roots : l.pass.roots ≡ take l.place l.roots;
  blocks : l.pass.blocks ≡ g.N.Nodes.blocks l.fn.nodes;
  reads : g.N.Nodes.reads l.nodes ≡ g.N.Nodes.reads l.fn.nodes + l.pass.next;
  looks : OnlyLooks g.N.Nodes.node g.N.Nodes.kept g.N.Nodes.writes g.N.Nodes.follows g.N.Nodes.is_sound g.N.Nodes.limit g.N.Nodes.blocks l.fn.nodes l.nodes;
}
