use Rattle.std.proofs.Common.{◌≡◌, ◌≤◌, ◌+◌, ◌-◌, length}
use Rattle.std.specs.Prelude.{vec_len, vec_capacity}
use Rattle.nodes.specs.Words.{Looks}
use Rattle.nodes.specs.Bodies.{back}
use Rattle.tree_edits.specs.Reading.{AreBlocks, AsksPageEach}
use Rattle.tree_edits.proofs.old_nodes.list_blocks.Given as goal

-- the blocks so far are listed, and the last of them is the one at hand
abbrev pub invariant-loop-step : goal.invariant-loop-step
invariant-loop-step g l = record {
  here : l.block ≡ back (g.N.Nodes.node l.initial.nodes) l.fn.body.head (l._step - 1);
  listed : AreBlocks (g.N.Nodes.node l.initial.nodes) l.fn.body.head l.blocks.items;
  size : length l.blocks.items ≡ l._step;
  long : vec_len l.blocks ≡ l._step;
  held : vec_capacity l.blocks ≡ l.count;
  reads : g.N.Nodes.reads l.nodes + 1 ≤ g.N.Nodes.reads l.initial.nodes + l._step;
  asks : AsksPageEach g.N.Nodes.asked g.N.Nodes.reads l.initial.nodes l.nodes;
  looks : Looks g.N.Nodes l.initial.nodes l.nodes;
}
