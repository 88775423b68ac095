use Rattle.std.proofs.Common.{ℕ, List, ◌++◌}
use Rattle.std.specs.Prelude.{slice_index}
use Rattle.reclaim.specs.Tops.{HasSize, KeepsTops, steps_below}
use Rattle.reclaim.proofs.tops.Tops.note_steps.Given as goal

-- what the slots so far told is kept
abbrev pub invariant-loop-slot : goal.invariant-loop-slot
invariant-loop-slot l = record {
  sized : HasSize l.initial.self.read.blocks l.self;
  told : (top : ℕ → ℕ) (seen : List ℕ) (told : List (ℕ × ℕ)) → KeepsTops top seen told l.initial.self → KeepsTops top seen (told ++ steps_below (slice_index l.pointers) l.index l.slot) l.self;
}
