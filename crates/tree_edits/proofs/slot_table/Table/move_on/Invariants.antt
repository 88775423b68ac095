use Rattle.std.proofs.Common.{◌≡◌, ℕ, ◌%◌, ◌^◌, ◌<◌, ◌≤◌, length, slice_index}
use Rattle.tree_edits.proofs.slot_table.Table.move_on.Given as goal

-- the slots below name the block, and the others what they did
abbrev pub invariant-loop-slot : goal.invariant-loop-slot
invariant-loop-slot l = record {
  size : length l.self.blocks ≡ 16;
  divides : (x : ℕ) → x < l.slot → l.index % 2 ^ x ≡ 0;
  moved : (x : ℕ) → x < l.slot → slice_index l.self.blocks x ≡ l.block;
  others : (x : ℕ) → l.slot ≤ x → slice_index l.self.blocks x ≡ slice_index l.initial.self.blocks x;
}
