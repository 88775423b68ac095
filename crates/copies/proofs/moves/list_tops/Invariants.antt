use Rattle.std.proofs.Common.{take}
use Rattle.std.specs.Prelude.{All}
use Rattle.plain_trees.specs.Trees.{Tree}
use Rattle.history_machine.specs.Machine.{view_tree}
use Rattle.inquiries.specs.Items.{IsItemOf}
use Rattle.inquiries.specs.Readings.{shown, IsUnchanged}
use Rattle.copies.specs.Found.{AreTops}
use Rattle.copies.proofs.moves.list_tops.Given as goal

abbrev pub invariant-loop-item : goal.invariant-loop-item
invariant-loop-item g l = IsUnchanged l.fn.fs l.fs × ((t : Tree) → All (IsItemOf t) l.items → AreTops t (view_tree (shown l.fn.fs) l.other) (take l.item-index l.items) l.tops.items)
