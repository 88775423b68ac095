use Rattle.std.proofs.Common.{◌≡◌, ◌*◌, ◌++◌}
use Rattle.flash_simulation.specs.Simulation.{device_of, plan_of}
use Rattle.flash_simulation.specs.Images.{parts, place_text}
use Rattle.flash_simulation.specs.ImageReading.{FillsPages}
use Rattle.flash_simulation.proofs.image_decoding.read_pages.Given as goal

abbrev pub invariant-loop-place : goal.invariant-loop-place
invariant-loop-place l = record {
  spelled : l.bytes ≡ parts l.place (place_text (device_of l.flash) l.block) ++ l.rest;
  fills : FillsPages (device_of l.fn.flash) (l.block * l.fn.flash.geometry.pages) (device_of l.flash);
  plan : plan_of l.flash ≡ plan_of l.fn.flash;
}
