use Rattle.std.proofs.Common.{◌≡◌, ℕ, List, [], ◌++◌, map, take}
use Rattle.plain_trees.specs.Trees.{Tree}
use Rattle.undofs.specs.Systems.{flash_name}
use Rattle.inquiries.specs.Readings.{IsUnchanged, shown}
use Rattle.copies.specs.Calls.{IsReady}
use Rattle.copies.specs.Copied.{Holds}
use Rattle.copies.proofs.copying.copy_checkpoints.Given as goal

abbrev pub invariant-loop-name : goal.invariant-loop-name
invariant-loop-name g l = (flash_name l.to ≡ flash_name l.fn.to) × IsUnchanged l.fn.from l.from × IsReady (shown l.to)
    × ((limit : ℕ) (trees : List Tree) → Holds limit trees [] (shown l.fn.to).history
    → Holds limit (trees ++ map (λ e. e.1) (take l.name-index (shown l.fn.from).history.checkpoints)) (take l.name-index (shown l.fn.from).history.checkpoints) (shown l.to).history)
