use Rattle.std.proofs.Common.{◌≡◌, map, take}
use Rattle.history_machine.specs.Machine.{view_tree}
use Rattle.inquiries.specs.Items.{item_at}
use Rattle.inquiries.specs.Readings.{shown, IsUnchanged}
use Rattle.inquiries.proofs.pruned.items_among.Given as goal

abbrev pub invariant-loop-path : goal.invariant-loop-path
invariant-loop-path g l = record {
  same : IsUnchanged l.fn.fs l.fs;
  items : l.items.items ≡ map (item_at (view_tree (shown l.fn.fs) l.view)) (take l.path-index l.paths);
}
