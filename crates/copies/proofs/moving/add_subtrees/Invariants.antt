use Rattle.std.proofs.Common.{◌≡◌, ◌++◌, take}
use Rattle.history_machine.specs.Machine.{working_tree}
use Rattle.inquiries.specs.Readings.{shown, IsUnchanged}
use Rattle.copies.specs.Moved.{subtrees_at}
use Rattle.copies.proofs.moving.add_subtrees.Given as goal

abbrev pub invariant-loop-one : goal.invariant-loop-one
invariant-loop-one g l = IsUnchanged l.fn.to l.to × (l.items.items ≡ l.fn.items.items ++ subtrees_at (working_tree (shown l.fn.to)) (take l.one-index l.moves))
