use Rattle.std.proofs.Common.{◌≡◌}
use Rattle.std.specs.Prelude.{slice_index}
use Rattle.reclaim.specs.Tops.{top_below}
use Rattle.reclaim.proofs.tops.top_in.Given as goal

-- what stands at the last of the slots so far
abbrev pub invariant-loop-slot : goal.invariant-loop-slot
invariant-loop-slot l = l.top ≡ top_below (slice_index l.pointers) l.index l.slot
