use Rattle.std.proofs.Common.{◌≡◌, take}
use Rattle.history_machine.specs.Machine.{view_tree}
use Rattle.inquiries.specs.Readings.{shown, IsUnchanged}
use Rattle.copies.specs.Found.{looks_of}
use Rattle.copies.proofs.moves.list_looks.Given as goal

abbrev pub invariant-loop-item : goal.invariant-loop-item
invariant-loop-item g l = IsUnchanged l.fn.fs l.fs × (l.looks.items ≡ looks_of (view_tree (shown l.fn.fs) l.view) (take l.item-index l.items))
