use Rattle.std.proofs.Common.{◌≡◌, ◌<◌, ◌≤◌, ℕ, slice_index, bit_and}
use Rattle.nor_part.proofs.cells.clear.Given as goal

abbrev pub invariant-loop-i : goal.invariant-loop-i
invariant-loop-i l =
    ((k : ℕ) → k < l.i → slice_index l.cells k ≡ bit_and (slice_index l.initial.cells k) (slice_index l.bytes k))
    × ((k : ℕ) → l.i ≤ k → slice_index l.cells k ≡ slice_index l.initial.cells k)
