use Rattle.std.proofs.Common.{◌≡◌, ◌≤◌, ◌+◌, length, drop}
use Rattle.directory.specs.Moves.{common}
use Rattle.directory.proofs.moves.common_names.Given as goal

-- so many names are common, and then those that the rests begin with
abbrev pub invariant-loop-i : goal.invariant-loop-i
invariant-loop-i l = record {
  within : l.i ≤ length l.new;
  rest : common l.old l.new ≡ l.i + common (drop l.i l.old) (drop l.i l.new);
}
