use Rattle.std.proofs.Common.{◌≡◌}
use Rattle.flash_simulation.specs.Images.{parts}
use Rattle.flash_simulation.specs.Simulation.{device_of}
use Rattle.raw_part.specs.Raws.{part_page}
use Rattle.raw_part.proofs.spelling.part_bytes.Given as goal

abbrev pub invariant-loop-number : goal.invariant-loop-number
invariant-loop-number l = l.bytes.items ≡ parts l.number (part_page l.layout (device_of l.flash))
