use Rattle.std.proofs.Common.{take}
use Rattle.std.specs.BTreeMap.{get}
use Rattle.std.specs.Ordering.{nat_cmp}
use Rattle.copies.specs.Pairs.{Indexes}
use Rattle.copies.proofs.pairs.index_looks.Given as goal

abbrev pub invariant-loop-look : goal.invariant-loop-look
invariant-loop-look l = Indexes (take l.look-index l.looks) (get nat_cmp l.last)
