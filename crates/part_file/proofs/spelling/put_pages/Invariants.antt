use Rattle.std.proofs.Common.{◌≡◌, length}
use Rattle.flash_simulation.specs.Simulation.{device_of}
use Rattle.part_file.specs.Pages.{IsPart}
use Rattle.part_file.proofs.Putting.{first_pages}
use Rattle.part_file.proofs.spelling.put_pages.Given as goal

abbrev pub invariant-loop-page : goal.invariant-loop-page
invariant-loop-page l = IsPart (first_pages (device_of l.flash) l.page) l.bytes × (length l.bytes ≡ length l.fn.bytes)
