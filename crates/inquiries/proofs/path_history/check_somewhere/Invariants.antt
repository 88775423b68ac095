use Rattle.std.proofs.Common.{◌≡◌, false, take}
use Rattle.std.specs.List.{list_any}
use Rattle.inquiries.specs.PathHistories.{is_there}
use Rattle.inquiries.specs.Readings.{shown, IsUnchanged}
use Rattle.inquiries.proofs.path_history.check_somewhere.Given as goal

abbrev pub invariant-loop-view : goal.invariant-loop-view
invariant-loop-view g l = IsUnchanged l.fn.fs l.fs × (list_any (is_there (shown l.fn.fs) l.path) (take l.view-index l.views) ≡ false)
