use Rattle.std.proofs.Common.{◌≡◌, ◌↔◌, ◌⊎◌, ℕ, ◌<◌, ◌≤◌, true}
use Rattle.std.specs.FinSet as set
use Rattle.fs_types.specs.declared.limits.TheConstants.{ANCHORS}
use Rattle.block_usage.proofs.blocks_apart.add_bad.Given as goal

-- of the data blocks so far the bad ones are marked too, and no other block changed
abbrev pub invariant-loop-block : goal.invariant-loop-block
invariant-loop-block l = record {
  blocks : l.marks.blocks ≡ l.initial.marks.blocks;
  done : (b : ℕ) → ANCHORS ≤ b → b < l.block → (set.contains l.marks.members b ≡ true) ↔ ((set.contains l.initial.marks.members b ≡ true) ⊎ (set.contains l.bad b ≡ true));
  rest : (b : ℕ) → l.block ≤ b → set.contains l.marks.members b ≡ set.contains l.initial.marks.members b;
}
