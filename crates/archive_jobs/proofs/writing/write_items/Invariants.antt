use Rattle.std.proofs.Common.{map, take}
use Rattle.std.specs.List.{flat_map}
use Rattle.std.specs.Io.KnownBytes.{Appends}
use Rattle.history_machine.specs.Machine.{view_tree}
use Rattle.inquiries.specs.Readings.{shown, IsUnchanged}
use Rattle.archives.specs.Archives.{entry_text}
use Rattle.archive_jobs.specs.Entries.{entry_of}
use Rattle.archive_jobs.proofs.writing.write_items.Given as goal

abbrev pub invariant-loop-item : goal.invariant-loop-item
invariant-loop-item g l = record {
  same : IsUnchanged l.fn.fs l.fs;
  written : Appends (g.W.Write.contents l.fn.out) (g.W.Write.contents l.out) (flat_map entry_text (take l.item-index (map (entry_of (view_tree (shown l.fn.fs) l.view)) l.items)));
}
