use Rattle.std.proofs.Common.{◌≡◌}
use Rattle.std.specs.Prelude.{take, map}
use Rattle.fs_types.proofs.path.names_of.Given as goal

abbrev pub invariant-loop-piece : goal.invariant-loop-piece
invariant-loop-piece l = l.names.items ≡ map (λ p. p.now) (take l.piece-index l.pieces)
