use Rattle.std.proofs.Common.{◌≡◌, ℕ, ◌+◌, ◌*◌, ◌<◌}
use Rattle.flash_model.specs.Device.{erased}
use Rattle.flash_simulation.specs.Simulation.{device_of}
use Rattle.operations.proofs.watched.is_blank.Given as goal

abbrev pub invariant-loop-place : goal.invariant-loop-place
invariant-loop-place l = record {
  blank : (j : ℕ) → j < l.place → (device_of l.flash).pages (l.block * (device_of l.flash).geometry.pages + j) ≡ erased;
}
