use Rattle.std.proofs.Common.{◌≡◌, ◌++◌, take}
use Rattle.std.specs.Prelude.{map}
use Rattle.fs_types.specs.declared.call.View.{View}
use Rattle.inquiries.proofs.path_history.add_versions.Given as goal

abbrev pub invariant-loop-serial : goal.invariant-loop-serial
invariant-loop-serial l = l.views.items ≡ l.initial.views.items ++ map View.Serial (take l.serial-index l.serials)
