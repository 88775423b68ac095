use Rattle.std.proofs.Common.{◌≡◌, ◌-◌, ◌^◌, min, take}
use Rattle.plain_trees.specs.Files.{bodies_need}
use Rattle.history_machine.specs.Machine.{changed_files}
use Rattle.plain_machine.proofs.written_files.changed_bodies.Given as goal

abbrev pub invariant-loop-file : goal.invariant-loop-file
invariant-loop-file l = l.need ≡ min (bodies_need l.capacity (changed_files l.tree l.directory (take l.file-index l.list))) (2 ^ 64 - 1)
