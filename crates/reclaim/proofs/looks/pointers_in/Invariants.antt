use Rattle.std.proofs.Common.{◌≡◌, ◌<◌, ℕ, Some, length}
use Rattle.std.specs.Prelude.{slice_index}
use Rattle.nodes.specs.Bodies.{pointer_of}
use Rattle.reclaim.proofs.looks.pointers_in.Given as goal

-- the slots so far
abbrev pub invariant-loop-slot : goal.invariant-loop-slot
invariant-loop-slot l = record {
  count : length l.out.items ≡ l.slot;
  each : (x : ℕ) → x < l.slot → slice_index l.out.items x ≡ pointer_of (Some l.bytes) x;
}
