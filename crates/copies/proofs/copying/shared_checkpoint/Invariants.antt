use Rattle.std.proofs.Common.{ℕ, List, false, take}
use Rattle.std.specs.Prelude.{All}
use Rattle.fs_types.specs.declared.call.View.{View}
use Rattle.system.specs.TreeSizes.{ShowRoots}
use Rattle.copies.proofs.copying.shared_checkpoint.Given as goal

abbrev pub invariant-loop-name : goal.invariant-loop-name
invariant-loop-name g l = All (λ (name : List ℕ). ShowRoots l.from.system.state (View.Checkpoint name) (View.Serial l.serial) false) (take l.name-index l.names)
