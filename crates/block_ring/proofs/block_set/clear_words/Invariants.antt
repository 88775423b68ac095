use Rattle.std.proofs.Common.{◌≡◌, replicate, ◌++◌, drop}
use Rattle.block_ring.proofs.block_set.clear_words.Given as goal

abbrev pub invariant-loop-word : goal.invariant-loop-word
invariant-loop-word l = l.words ≡ replicate l.word-index 0 ++ drop l.word-index l.initial.words
