use Rattle.std.proofs.Common.{◌≡◌, ◌++◌, map}
use Rattle.machine_state.proofs.histories.readers.names_of.Given as goal

abbrev pub invariant-loop-name : goal.invariant-loop-name
invariant-loop-name g l = l.names ++ map (λ e. e.0) l.name-iterator ≡ map (λ e. e.0) l.checkpoints.entries
