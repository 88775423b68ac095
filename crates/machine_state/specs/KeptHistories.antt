-- What is true of a history that is held in memory.
use Rattle.std.specs.Prelude.{◌<◌, ◌≤◌, All}
use Rattle.history_machine.specs.History.{Past, IsLawful}
use Rattle.fs_types.specs.declared.limits.TheConstants.{MAX_VERSIONS}

-- the history is lawful, its serials begin at 1, and no more versions are kept than may be
pub record IsKept {R : Type 0} (p : Past R) : Type 0 where
  pub lawful : IsLawful p
  pub from_one : All (λ v. 0 < v.serial) p.versions
  pub at_most : p.limit ≤ MAX_VERSIONS
