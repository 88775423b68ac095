use Rattle.std.proofs.Common.{◌≡◌, ◌++◌}
use Rattle.std.specs.List.{flat_map}
use Rattle.block_usage.specs.OtherRoots.{other_checkpoint, other_checkpoints}
use Rattle.block_usage.proofs.other_roots.add_checkpoints.Given as goal

abbrev pub invariant-loop-name : goal.invariant-loop-name
invariant-loop-name l = l.roots.items ++ flat_map (other_checkpoint l.view) l.name-iterator ≡ l.initial.roots.items ++ other_checkpoints l.history l.view
