use Rattle.std.proofs.Common.{◌≡◌, ◌++◌, take}
use Rattle.std.specs.List.{flat_map}
use Rattle.script.specs.Replies.{version_text}
use Rattle.script.proofs.replies.print_version_lines.Given as goal

abbrev pub invariant-loop-version : goal.invariant-loop-version
invariant-loop-version l = l.out.items ≡ l.fn.out.items ++ flat_map version_text (take l.version-index l.versions)
