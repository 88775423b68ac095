use Rattle.std.proofs.Common.{◌≡◌, ℕ, ◌<◌, true}
use Rattle.std.specs.FinSet as set
use Rattle.flash_simulation.specs.Simulation.{device_of}
use Rattle.anchors.specs.Remembering.{MayCommit}
use Rattle.part_tests.proofs.commits.commit_all.Given as goal

abbrev pub invariant-loop-n : goal.invariant-loop-n
invariant-loop-n l = record {
  sizes : (device_of l.flash).geometry ≡ record { page = 256; pages = 16; blocks = 32 };
  on_anchors : (b : ℕ) → set.contains l.bad b ≡ true → b < 8;
  ready : MayCommit (device_of l.flash) l.bad l.anchors;
}
