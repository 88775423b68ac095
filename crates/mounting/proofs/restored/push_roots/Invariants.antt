use Rattle.std.proofs.Common.{◌≡◌, ◌++◌, map}
use Rattle.mounting.proofs.restored.push_roots.Given as goal

abbrev pub invariant-loop-name : goal.invariant-loop-name
invariant-loop-name l = l.roots.items ++ map (λ e. e.1) l._name-iterator ≡ l.initial.roots.items ++ map (λ e. e.1) l.checkpoints.entries
