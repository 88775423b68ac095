use Rattle.std.proofs.Common.{◌≡◌, ◌++◌, take}
use Rattle.history_machine.specs.Machine.{working_tree}
use Rattle.inquiries.specs.Readings.{shown, IsUnchanged}
use Rattle.copies.specs.Moved.{there_in}
use Rattle.copies.proofs.moving.add_items.Given as goal

abbrev pub invariant-loop-item : goal.invariant-loop-item
invariant-loop-item g l = IsUnchanged l.fn.to l.to × (l.items.items ≡ l.fn.items.items ++ there_in (working_tree (shown l.fn.to)) (take l.item-index l.olds))
