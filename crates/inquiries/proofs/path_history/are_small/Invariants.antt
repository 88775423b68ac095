use Rattle.std.proofs.Common.{take}
use Rattle.std.specs.Prelude.{All}
use Rattle.inquiries.specs.PathHistories.{IsSmallAt}
use Rattle.inquiries.specs.Readings.{shown, IsUnchanged}
use Rattle.inquiries.proofs.path_history.are_small.Given as goal

abbrev pub invariant-loop-view : goal.invariant-loop-view
invariant-loop-view g l = IsUnchanged l.fn.fs l.fs × All (IsSmallAt (shown l.fn.fs) l.path) (take l.view-index l.views)
