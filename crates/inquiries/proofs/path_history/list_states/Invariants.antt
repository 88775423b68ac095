use Rattle.std.proofs.Common.{◌≡◌, take}
use Rattle.std.specs.List.{flat_map, enumerate_from}
use Rattle.inquiries.specs.PathHistories.{history_line}
use Rattle.inquiries.specs.Readings.{shown, IsUnchanged}
use Rattle.inquiries.proofs.path_history.list_states.Given as goal

abbrev pub invariant-loop-place : goal.invariant-loop-place
invariant-loop-place g l = IsUnchanged l.fn.fs l.fs × (l.out.items ≡ flat_map (history_line (shown l.fn.fs) l.path) (take l.place (enumerate_from 0 l.views)))
