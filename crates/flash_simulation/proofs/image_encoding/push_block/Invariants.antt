use Rattle.std.proofs.Common.{◌≡◌, ◌++◌}
use Rattle.flash_simulation.specs.Simulation.{device_of}
use Rattle.flash_simulation.specs.Images.{parts, place_text, worn_text}
use Rattle.flash_simulation.proofs.image_encoding.push_block.Given as goal

abbrev pub invariant-loop-place : goal.invariant-loop-place
invariant-loop-place l =
    l.image.items ≡ l.fn.image.items ++ (worn_text ((device_of l.flash).worn l.block) ++ parts l.place (place_text (device_of l.flash) l.block))
