use Rattle.std.proofs.Common.{◌∙◌}
use Rattle.fs_types.specs.NamedFiles.{path_in}
use Rattle.fs_types.specs.declared.named_file.NamedFile.{NamedFile}
use Rattle.history_machine.specs.Machine.{write_file_changes}
use Rattle.plain_machine.proofs.NextFiles.{any-left}
use Rattle.plain_machine.proofs.written_files.files_change.Goals as goal

pub returns : goal.returns
returns c = c.any_changes.ensures ∙ any-left (λ (file : NamedFile). write_file_changes c.args.tree.now (path_in c.args.directory.now file) file.bytes) c.args.list.now
