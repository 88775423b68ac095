use Rattle.std.proofs.Common.{◌≡◌, take}
use Rattle.tree_differences.specs.Updates.{changed_end}
use Rattle.updates.proofs.patches.changed_end.Given as goal

abbrev pub invariant-loop-at : goal.invariant-loop-at
invariant-loop-at l = l.end ≡ changed_end (take l.at l.bytes) (take l.at l.others)
