use Rattle.std.proofs.Common.{◌≡◌, ◌++◌, ◌∷◌, ◌*◌, ◌-◌, [], map}
use Rattle.std.specs.List.{range_with_len}
use Rattle.fs_types.specs.declared.call.Call.{Call}
use Rattle.tree_differences.specs.Updates.{for_writing, piece}
use Rattle.updates.proofs.patches.add_rewriting.Given as goal

abbrev pub invariant-loop-at : goal.invariant-loop-at
invariant-loop-at l = l.calls.items ≡ (l.fn.calls.items ++ Call.Open l.fn.path for_writing ∷ Call.Ftruncate 0 (l.kept * 30000) ∷ []) ++ map (piece l.bytes) (range_with_len l.kept (l.at - l.kept))
