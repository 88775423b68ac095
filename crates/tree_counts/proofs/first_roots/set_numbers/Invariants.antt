use Rattle.std.proofs.Common.{◌≡◌, ℕ, take}
use Rattle.std.specs.Prelude.{slice_index, Contains}
use Rattle.tree_counts.proofs.first_roots.set_numbers.Given as goal

-- the first blocks of the list have the number, and all others are as they were
abbrev pub invariant-loop-block : goal.invariant-loop-block
invariant-loop-block l = record {
  given : (b : ℕ) → Contains (take l.block-index l.blocks) b → slice_index l.numbers b ≡ l.number;
  others : (b : ℕ) → (Contains (take l.block-index l.blocks) b → ⊥) → slice_index l.numbers b ≡ slice_index l.initial.numbers b;
}
