use Rattle.std.proofs.Common.{◌≡◌, take}
use Rattle.plain_machine.proofs.entries.names_below.Given as goal

abbrev pub invariant-loop-above : goal.invariant-loop-above
invariant-loop-above l = l.names.items ≡ take l.above-index l.path
