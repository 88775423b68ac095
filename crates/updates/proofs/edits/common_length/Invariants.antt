use Rattle.std.proofs.Common.{◌≡◌, ◌+◌, ◌≤◌, length, drop}
use Rattle.tree_differences.specs.Updates.{common_length}
use Rattle.updates.proofs.edits.common_length.Given as goal

abbrev pub invariant-loop-at : goal.invariant-loop-at
invariant-loop-at l = common_length l.bytes l.others ≡ l.at + common_length (drop l.at l.bytes) (drop l.at l.others)
