use Rattle.flash_model.specs.Contents.{shown_page}
use Rattle.flash_simulation.specs.Simulation.{device_of}
use Rattle.mirrored_flash.proofs.Shown.{SetsBelow}
use Rattle.mirrored_flash.proofs.shown_pages.set_pages.Given as goal

abbrev pub invariant-loop-place : goal.invariant-loop-place
invariant-loop-place l = SetsBelow (device_of l.fn.shown) l.block l.place (shown_page l.page) (device_of l.shown)
