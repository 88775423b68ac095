use Rattle.std.proofs.Common.{◌≡◌, drop}
use Rattle.plain_trees.specs.Files.{files_put}
use Rattle.history_machine.specs.Machine.{changed_files}
use Rattle.plain_machine.proofs.written_files.write_files.Given as goal

abbrev pub invariant-loop-file : goal.invariant-loop-file
invariant-loop-file l = files_put l.next l.directory (changed_files l.tree l.directory (drop l.file-index l.list)) ≡ files_put l.tree l.directory (changed_files l.tree l.directory l.list)
