use Rattle.std.proofs.Common.{◌≡◌, ◌++◌}
use Rattle.flash_simulation.specs.Simulation.{device_of, plan_of}
use Rattle.flash_simulation.specs.Images.{parts, block_text}
use Rattle.flash_simulation.specs.ImageReading.{FillsBlocks}
use Rattle.flash_simulation.proofs.image_decoding.read_blocks.Given as goal

abbrev pub invariant-loop-block : goal.invariant-loop-block
invariant-loop-block l = record {
  spelled : l.bytes ≡ parts l.block (block_text (device_of l.flash)) ++ l.rest;
  fills : FillsBlocks (device_of l.fn.flash) 0 (device_of l.flash);
  plan : plan_of l.flash ≡ plan_of l.fn.flash;
}
