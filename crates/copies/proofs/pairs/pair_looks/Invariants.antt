use Rattle.std.proofs.Common.{◌≡◌, take}
use Rattle.std.specs.List.{flat_map}
use Rattle.std.specs.BTreeMap.{get}
use Rattle.std.specs.Ordering.{nat_cmp}
use Rattle.copies.specs.Pairs.{pair_of}
use Rattle.copies.proofs.pairs.pair_looks.Given as goal

abbrev pub invariant-loop-look : goal.invariant-loop-look
invariant-loop-look l = l.moves.items ≡ flat_map (λ look. pair_of (get nat_cmp l.last look.shape) look.path) (take l.look-index l.come)
