use Rattle.std.proofs.Common.{◌≡◌, ◌++◌, map}
use Rattle.block_usage.specs.Kinds.{checkpoint_roots}
use Rattle.block_usage.proofs.block_facts.checkpoint_roots.Given as goal

abbrev pub invariant-loop-name : goal.invariant-loop-name
invariant-loop-name l = l.roots.items ++ map (λ e. e.1) l._name-iterator ≡ checkpoint_roots l.history
