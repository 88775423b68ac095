use Rattle.std.proofs.Common.{◌≡◌, ℕ, List, ◌++◌, map, take}
use Rattle.fs_types.specs.declared.call.View.{View}
use Rattle.plain_trees.specs.Trees.{Tree}
use Rattle.history_machine.specs.Machine.{view_tree}
use Rattle.undofs.specs.Systems.{flash_name}
use Rattle.inquiries.specs.Readings.{IsUnchanged, shown}
use Rattle.copies.specs.Calls.{IsReadyAfter}
use Rattle.copies.specs.Copied.{Holds}
use Rattle.copies.proofs.copying.copy_versions.Given as goal

abbrev pub invariant-loop-serial : goal.invariant-loop-serial
invariant-loop-serial g l = (flash_name l.to ≡ flash_name l.fn.to) × IsUnchanged l.fn.from l.from × IsReadyAfter (shown l.fn.from) l.last (shown l.to) × ((shown l.to).history.checkpoints ≡ (shown l.fn.from).history.checkpoints)
    × ((limit : ℕ) (trees : List Tree) → Holds limit trees (shown l.fn.from).history.checkpoints (shown l.fn.to).history
    → Holds limit (trees ++ map (λ serial. view_tree (shown l.fn.from) (View.Serial serial)) (take l.serial-index l.serials)) (shown l.fn.from).history.checkpoints (shown l.to).history)
