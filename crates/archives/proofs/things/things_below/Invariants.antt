use Rattle.std.proofs.Common.{◌≡◌}
use Rattle.archives.specs.Things.{things_below}
use Rattle.archives.proofs.things.things_below.Given as goal

abbrev pub invariant-loop-entry : goal.invariant-loop-entry
invariant-loop-entry l = l.things.items ≡ things_below l.base l.yielded
