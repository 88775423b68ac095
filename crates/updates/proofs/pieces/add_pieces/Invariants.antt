use Rattle.std.proofs.Common.{◌≡◌, ◌++◌, ◌∷◌, [], map}
use Rattle.std.specs.List.{range_with_len}
use Rattle.fs_types.specs.declared.call.Call.{Call}
use Rattle.history_machine.specs.Laws.{anew}
use Rattle.tree_differences.specs.Updates.{piece}
use Rattle.updates.proofs.pieces.add_pieces.Given as goal

abbrev pub invariant-loop-at : goal.invariant-loop-at
invariant-loop-at l = l.calls.items ≡ (l.fn.calls.items ++ Call.Open l.fn.path anew ∷ []) ++ map (piece l.bytes) (range_with_len 0 l.at)
