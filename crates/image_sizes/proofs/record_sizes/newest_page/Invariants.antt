use Rattle.flash_simulation.specs.Simulation.{device_of}
use Rattle.image_sizes.specs.FirstPages.{IsNewest}
use Rattle.image_sizes.proofs.record_sizes.newest_page.Given as goal

abbrev pub invariant-loop-page : goal.invariant-loop-page
invariant-loop-page l = IsNewest (device_of l.flash).pages l.page l.newest
