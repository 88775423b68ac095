use Rattle.std.proofs.Common.{◌≡◌, None, drop}
use Rattle.std.specs.Option.{option_copied}
use Rattle.fs_types.specs.NamedFiles.{ascend_from}
use Rattle.fs_types.proofs.named_file.do_ascend.Given as goal

abbrev pub invariant-loop-file : goal.invariant-loop-file
invariant-loop-file l = ascend_from None l.files ≡ ascend_from (option_copied l.last) (drop l.file-index l.files)
