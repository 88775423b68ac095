use Rattle.std.proofs.Common.{◌≡◌, ◌+◌, length, slice_index, EachIndex}
use Rattle.flash_model.specs.Device.{Device}
use Rattle.working_state.specs.Mounted.{IsMounted}
use Rattle.system.specs.VersionSpace.{AreEnds, KeepsAlone}
use Rattle.system.proofs.version_space.tell_checkpoints.Given as goal

-- so many checkpoints were told, each as it is
abbrev pub invariant-loop-place : goal.invariant-loop-place
invariant-loop-place l =
    (length l.state.history.versions + length l.checkpoints.items ≡ l.place)
    × ((d : Device) → IsMounted d l.state → AreEnds d l.state l.ends → EachIndex l.checkpoints.items (λ k. KeepsAlone d l.state (length l.state.history.versions + k) (slice_index l.checkpoints.items k)))
