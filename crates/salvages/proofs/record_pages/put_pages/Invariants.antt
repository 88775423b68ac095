use Rattle.std.proofs.Common.{◌≡◌, ◌≤◌, vec_capacity}
use Rattle.flash_simulation.specs.Simulation.{device_of, plan_of}
use Rattle.salvages.specs.Copies.{HasPagesOnly}
use Rattle.salvages.specs.Placing.{HasFirstPages}
use Rattle.salvages.proofs.record_pages.put_pages.Given as goal

abbrev pub invariant-loop-n : goal.invariant-loop-n
invariant-loop-n l = record {
  pages : HasFirstPages (device_of l.initial.flash) (device_of l.flash) l.sequence l.payload l.count l.n;
  only : HasPagesOnly (device_of l.initial.flash) (device_of l.flash);
  plan : plan_of l.flash ≡ plan_of l.initial.flash;
  room : l.geometry.page ≤ vec_capacity l.page;
}
