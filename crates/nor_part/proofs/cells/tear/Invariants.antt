use Rattle.std.proofs.Common.{◌≡◌, ◌≢◌, ◌<◌, ◌≤◌, ℕ, slice_index}
use Rattle.nor_part.proofs.cells.tear.Given as goal

abbrev pub invariant-loop-i : goal.invariant-loop-i
invariant-loop-i l = record {
  torn : (k : ℕ) → k < l.i → slice_index l.initial.cells k ≡ 255 → slice_index l.bytes k ≢ 0 → slice_index l.cells k ≢ 0;
  trace : (k : ℕ) → k < l.i → slice_index l.initial.cells k ≡ 255 → slice_index l.bytes k < 16 → (slice_index l.cells k ≢ 255) × (slice_index l.cells k ≢ slice_index l.bytes k);
  keeps : (k : ℕ) → k < l.i → slice_index l.bytes k ≡ 255 → slice_index l.cells k ≡ slice_index l.initial.cells k;
  zeroes : (k : ℕ) → k < l.i → slice_index l.bytes k ≡ 0 → slice_index l.cells k < 17;
  later : (k : ℕ) → l.i ≤ k → slice_index l.cells k ≡ slice_index l.initial.cells k;
}
