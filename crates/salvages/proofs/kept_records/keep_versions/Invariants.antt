use Rattle.std.proofs.Common.{◌≡◌, take}
use Rattle.salvages.specs.Kept.{kept_versions}
use Rattle.salvages.proofs.kept_records.keep_versions.Given as goal

abbrev pub invariant-loop-version : goal.invariant-loop-version
invariant-loop-version l = l.kept.items ≡ kept_versions l.lost (take l.version-index l.versions)
