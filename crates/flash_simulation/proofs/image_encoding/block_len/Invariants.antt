use Rattle.std.proofs.Common.{◌≡◌, ◌≤◌, ◌+◌, ◌*◌, length}
use Rattle.flash_simulation.specs.Simulation.{device_of}
use Rattle.flash_simulation.specs.Images.{parts, place_text}
use Rattle.flash_simulation.proofs.image_encoding.block_len.Given as goal

abbrev pub invariant-loop-place : goal.invariant-loop-place
invariant-loop-place l = record {
  is : l.len ≡ 1 + length (parts l.place (place_text (device_of l.flash) l.block));
  most : l.len ≤ 1 + 4097 * l.place;
}
