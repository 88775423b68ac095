use Rattle.std.proofs.Common.{◌≡◌, ℕ, ◌+◌, ◌*◌, ◌<◌, ◌≤◌, vec_len}
use Rattle.flash_model.specs.Device.{erased}
use Rattle.flash_model.specs.Reading.{OnlyReads}
use Rattle.system.proofs.blank_blocks.is_blank.Given as goal

abbrev pub invariant-loop-place : goal.invariant-loop-place
invariant-loop-place g l = record {
  only_reads : OnlyReads (g.F.Flash.device l.initial.flash) (g.F.Flash.device l.flash);
  blank : (j : ℕ) → j < l.place → (g.F.Flash.device l.initial.flash).pages (l.block * (g.F.Flash.device l.initial.flash).geometry.pages + j) ≡ erased;
  page : vec_len l.page ≡ vec_len l.initial.page;
  operations : (g.F.Flash.device l.flash).operations ≤ (g.F.Flash.device l.initial.flash).operations + l.place;
}
