use Rattle.std.proofs.Common.{◌≡◌, ◌≤◌, ◌+◌, ◌*◌, length}
use Rattle.flash_simulation.specs.Simulation.{device_of}
use Rattle.flash_simulation.specs.Images.{parts, block_text}
use Rattle.flash_simulation.proofs.image_encoding.image_len.Given as goal

abbrev pub invariant-loop-block : goal.invariant-loop-block
invariant-loop-block l = record {
  is : l.len ≡ 20 + length (parts l.block (block_text (device_of l.flash)));
  most : l.len ≤ 20 + 4195329 * l.block;
}
