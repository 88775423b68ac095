use Rattle.std.proofs.Common.{◌≡◌, ◌++◌, take}
use Rattle.std.specs.Prelude.{map}
use Rattle.fs_types.specs.declared.call.View.{View}
use Rattle.inquiries.proofs.path_history.add_checkpoints.Given as goal

abbrev pub invariant-loop-name : goal.invariant-loop-name
invariant-loop-name l = l.views.items ≡ l.initial.views.items ++ map View.Checkpoint (take l.name-index l.names)
