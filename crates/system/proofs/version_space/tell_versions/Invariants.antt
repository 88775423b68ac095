use Rattle.std.proofs.Common.{◌≡◌, ℕ, Some, length, slice_get}
use Rattle.flash_model.specs.Device.{Device}
use Rattle.working_state.specs.Mounted.{IsMounted}
use Rattle.system.specs.VersionSpace.{AreEnds, IsVersionSpace}
use Rattle.system.specs.declared.version_space.VersionSpace.{VersionSpace}
use Rattle.system.proofs.version_space.tell_versions.Given as goal

-- so many versions were told, each as it is
abbrev pub invariant-loop-place : goal.invariant-loop-place
invariant-loop-place l =
    (length l.versions.items ≡ l.place)
    × ((d : Device) → IsMounted d l.state → AreEnds d l.state l.ends → (place : ℕ) (version : VersionSpace) → slice_get l.versions.items place ≡ Some version → IsVersionSpace d l.state place version)
