use Rattle.std.proofs.Common.{◌≡◌, ◌++◌}
use Rattle.updates.specs.Lines.{lines_of}
use Rattle.updates.proofs.update_scripts.print_calls.Given as goal

abbrev pub invariant-loop-call : goal.invariant-loop-call
invariant-loop-call l = l.out.items ≡ l.fn.out.items ++ lines_of l.yielded
