use Rattle.std.proofs.Common.{◌≡◌, ℕ, ◌+◌, ◌-◌, ◌%◌, ◌^◌, ◌<◌, ◌≤◌, length, slice_index}
use Rattle.nodes.specs.Words.{Looks}
use Rattle.nodes.specs.Bodies.{back}
use Rattle.tree_edits.specs.Reading.{AsksPageEach}
use Rattle.tree_edits.proofs.slot_table.start_table.Given as goal

-- the slots so far name the last nodes that their powers divide, and the last of them is the node at hand
abbrev pub invariant-loop-slot : goal.invariant-loop-slot
invariant-loop-slot g l = record {
  size : length l.blocks ≡ 16;
  here : l.block ≡ back (g.N.Nodes.node l.initial.nodes) l.head (l.before % 2 ^ (l.slot - 1));
  named : (x : ℕ) → x < l.slot → slice_index l.blocks x ≡ back (g.N.Nodes.node l.initial.nodes) l.head (l.before % 2 ^ x);
  reads : g.N.Nodes.reads l.nodes ≤ g.N.Nodes.reads l.initial.nodes + (l.slot - 1);
  few : (digits : ℕ) → l.index ≤ 2 ^ digits → g.N.Nodes.reads l.nodes ≤ g.N.Nodes.reads l.initial.nodes + digits;
  asks : AsksPageEach g.N.Nodes.asked g.N.Nodes.reads l.initial.nodes l.nodes;
  looks : Looks g.N.Nodes l.initial.nodes l.nodes;
}
