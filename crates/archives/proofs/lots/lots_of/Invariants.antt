use Rattle.archives.proofs.LotLemmas.{HasTaken}
use Rattle.archives.proofs.lots.lots_of.Given as goal

abbrev pub invariant-loop-thing : goal.invariant-loop-thing
invariant-loop-thing l = HasTaken l.yielded l.lots.items l.last
