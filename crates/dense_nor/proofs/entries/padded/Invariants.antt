use Rattle.std.proofs.Common.{◌≡◌, ◌⊎◌, ◌<◌, ◌≤◌, ◌+◌, ◌*◌, ℕ, length, slice_index}
use Rattle.dense_nor.proofs.entries.padded.Given as goal

abbrev pub invariant-loop-k : goal.invariant-loop-k
invariant-loop-k l = record {
  own : (k : ℕ) → k < l.k → slice_index l.bytes (8 * l.place + k) ≡ slice_index l.entry k;
  others : (k : ℕ) → k < 256 → (k < 8 * l.place) ⊎ (8 * l.place + 8 ≤ k) → slice_index l.bytes k ≡ 255;
  len : length l.bytes ≡ 256;
}
