use Rattle.std.proofs.Common.{◌≡◌, ◌+◌, ◌<◌, ℕ, length}
use Rattle.std.specs.Prelude.{slice_index}
use Rattle.nodes.specs.Words.{Looks}
use Rattle.nodes.specs.Bodies.{back}
use Rattle.block_usage.proofs.place_blocks.file_blocks.Given as goal

-- the blocks so far are listed, and the last of them is the one at hand
abbrev pub invariant-loop-node : goal.invariant-loop-node
invariant-loop-node g l = record {
  here : l.block ≡ back (g.N.Nodes.node l.initial.nodes) l.fn.head l._node;
  each : (k : ℕ) → k < length l.blocks.items → slice_index l.blocks.items k ≡ back (g.N.Nodes.node l.initial.nodes) l.fn.head k;
  size : length l.blocks.items ≡ l._node + 1;
  looks : Looks g.N.Nodes l.initial.nodes l.nodes;
}
