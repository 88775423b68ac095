use Rattle.std.proofs.Common.{◌≡◌, take}
use Rattle.put_lots.proofs.lots.directory_of.Given as goal

abbrev pub invariant-loop-name : goal.invariant-loop-name
invariant-loop-name l = l.path ≡ take l.name-index l.parents
