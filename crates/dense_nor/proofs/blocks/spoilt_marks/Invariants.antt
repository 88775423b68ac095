use Rattle.std.proofs.Common.{◌≡◌, ◌<◌, ◌≤◌, ◌%◌, ℕ, length, slice_index}
use Rattle.dense_nor.proofs.blocks.spoilt_marks.Given as goal

abbrev pub invariant-loop-k : goal.invariant-loop-k
invariant-loop-k l = record {
  zeros : (k : ℕ) → k < 256 → k % 8 < 4 → slice_index l.byte-items k ≡ 0;
  sums : (k : ℕ) → k < l.k → 4 ≤ k % 8 → slice_index l.byte-items k ≡ 255;
  len : length l.byte-items ≡ 256;
}
