use Rattle.std.proofs.Common.{◌≡◌, ◌++◌}
use Rattle.flash_simulation.specs.Simulation.{device_of}
use Rattle.flash_simulation.specs.Images.{header, parts, block_text}
use Rattle.flash_simulation.proofs.image_encoding.encode.Given as goal

abbrev pub invariant-loop-block : goal.invariant-loop-block
invariant-loop-block l = l.image.items ≡ header (device_of l.flash).geometry ++ parts l.block (block_text (device_of l.flash))
