use Rattle.std.proofs.Common.{◌/◌, length}
use Rattle.flash_simulation.specs.Simulation.{device_of}
use Rattle.raw_part.specs.Layouts.{part_block}
use Rattle.raw_part.proofs.Read.{HasRead}
use Rattle.raw_part.proofs.raw_flash.flash_of_raw.Given as goal

abbrev pub invariant-loop-page : goal.invariant-loop-page
invariant-loop-page l = HasRead l.layout (length l.bytes / part_block l.layout) l.bytes (device_of l.flash) l.page
