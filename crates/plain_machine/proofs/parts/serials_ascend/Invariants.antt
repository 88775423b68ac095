use Rattle.std.proofs.Common.{◌≡◌, drop}
use Rattle.plain_machine.specs.Restoring.{past_serials_ascend}
use Rattle.plain_machine.proofs.parts.serials_ascend.Given as goal

abbrev pub invariant-loop-version : goal.invariant-loop-version
invariant-loop-version l = past_serials_ascend l.before (drop l.version-index l.versions) ≡ past_serials_ascend 0 l.versions
