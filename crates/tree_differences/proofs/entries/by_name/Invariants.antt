use Rattle.std.proofs.Common.{◌≤◌, length, drop}
use Rattle.tree_differences.proofs.Named.{AreNamed}
use Rattle.tree_differences.proofs.entries.by_name.Given as goal

abbrev pub invariant-loop-left : goal.invariant-loop-left
invariant-loop-left l = record {
  within : l.left ≤ length l.entries;
  are : AreNamed l.places.entries (drop l.left l.entries);
}

abbrev pub decreases-loop-left : goal.decreases-loop-left
decreases-loop-left l = l.left
