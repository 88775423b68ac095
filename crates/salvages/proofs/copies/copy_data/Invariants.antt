use Rattle.std.proofs.Common.{◌≡◌, ℕ, ◌<◌, ◌≤◌, vec_len}
use Rattle.flash_model.specs.Device.{erased}
use Rattle.flash_model.specs.Reading.{OnlyReads}
use Rattle.flash_simulation.specs.Simulation.{device_of}
use Rattle.salvages.specs.Copies.{IsSure}
use Rattle.salvages.proofs.copies.copy_data.Given as goal

abbrev pub invariant-loop-page : goal.invariant-loop-page
invariant-loop-page g l = record {
  sure : IsSure (g.F.Flash.device l.initial.flash).geometry l.copy;
  copied : (p : ℕ) → l.first ≤ p → p < l.page → (device_of l.copy).pages p ≡ (g.F.Flash.device l.initial.flash).pages p;
  others : (p : ℕ) → p < l.first → (device_of l.copy).pages p ≡ erased;
  only_reads : OnlyReads (g.F.Flash.device l.initial.flash) (g.F.Flash.device l.flash);
  room : vec_len l.buffer ≡ (g.F.Flash.device l.initial.flash).geometry.page;
}
