use Rattle.std.proofs.Common.{take}
use Rattle.directory.specs.Puts.{IsPutEach}
use Rattle.directory.proofs.directory_puts.put_each.Given as goal

abbrev pub invariant-loop-i : goal.invariant-loop-i
invariant-loop-i l = IsPutEach l.list (take l.i l.puts) l.edited
