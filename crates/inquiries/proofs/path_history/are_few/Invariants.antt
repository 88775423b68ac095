use Rattle.std.proofs.Common.{◌≡◌, ◌≤◌, take}
use Rattle.std.specs.Prelude.{sum_by}
use Rattle.inquiries.specs.PathHistories.{looked_at}
use Rattle.inquiries.specs.Readings.{shown, IsUnchanged}
use Rattle.inquiries.specs.declared.tell_fault.TheConstants.{MAX_LINES}
use Rattle.inquiries.proofs.path_history.are_few.Given as goal

abbrev pub invariant-loop-view : goal.invariant-loop-view
invariant-loop-view g l = IsUnchanged l.fn.fs l.fs × (l.looked ≡ sum_by (looked_at (shown l.fn.fs) l.path) (take l.view-index l.views)) × (l.looked ≤ MAX_LINES)
