use Rattle.std.proofs.Common.{◌≡◌, ◌-◌, ◌^◌, min, take}
use Rattle.std.specs.List.{sum_by, range_with_len}
use Rattle.plain_trees.specs.Trees.{directory_need}
use Rattle.plain_machine.proofs.needs.path_need.Given as goal

abbrev pub invariant-loop-i : goal.invariant-loop-i
invariant-loop-i l = l.need ≡ min (sum_by (λ k. directory_need l.before l.after (take k l.names)) (range_with_len 0 l.i)) (2 ^ 64 - 1)
