use Rattle.std.proofs.Common.{◌≡◌, drop}
use Rattle.plain_trees.specs.Trees.{entry_count}
use Rattle.history_machine.specs.NextFiles.{next_refusals}
use Rattle.plain_machine.proofs.written_files.next_refusals.Given as goal

abbrev pub invariant-loop-file : goal.invariant-loop-file
invariant-loop-file l = next_refusals l.tree l.files l.directory l.count (drop l.file-index l.list) ≡ next_refusals l.tree l.files l.directory (entry_count l.tree l.directory) l.list
