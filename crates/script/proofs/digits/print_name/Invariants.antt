use Rattle.std.proofs.Common.{◌≡◌, ◌++◌}
use Rattle.percent_encoding.specs.Iter.{encoded_text}
use Rattle.script.proofs.digits.print_name.Given as goal

abbrev pub invariant-loop-piece : goal.invariant-loop-piece
invariant-loop-piece l = l.out.items ++ encoded_text l.piece-iterator ≡ l.fn.out.items ++ encoded_text l.initial.piece-iterator
