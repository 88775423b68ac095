use Rattle.std.proofs.Common.{◌≡◌, ℕ, ◌<◌, ◌≤◌, get_or}
use Rattle.std.specs.Int.RustNames.{bit_or}
use Rattle.block_ring.proofs.block_set.join_words.Given as goal

abbrev pub invariant-loop-place : goal.invariant-loop-place
invariant-loop-place l =
    ((k : ℕ) → k < l.place → get_or l.words k 0 ≡ bit_or (get_or l.initial.words k 0) (get_or l.more k 0))
    × ((k : ℕ) → l.place ≤ k → get_or l.words k 0 ≡ get_or l.initial.words k 0)
