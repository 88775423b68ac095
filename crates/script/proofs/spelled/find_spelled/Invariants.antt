use Rattle.std.proofs.Common.{◌≡◌}
use Rattle.script.proofs.SpelledLemmas.{found_from}
use Rattle.script.proofs.spelled.find_spelled.Given as goal

abbrev pub invariant-loop-spelling : goal.invariant-loop-spelling
invariant-loop-spelling g l = found_from l.word l.rows l.spelling-index ≡ found_from l.word l.rows 0
