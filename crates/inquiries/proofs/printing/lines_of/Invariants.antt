use Rattle.std.proofs.Common.{◌≡◌, take}
use Rattle.std.specs.List.{flat_map}
use Rattle.inquiries.specs.Printed.{item_line}
use Rattle.inquiries.proofs.printing.lines_of.Given as goal

abbrev pub invariant-loop-item : goal.invariant-loop-item
invariant-loop-item l = l.out.items ≡ flat_map item_line (take l.item-index l.items)
