-- What a driver shows after an operation in which a fault was planned, before a restart.
use Rattle.std.specs.Prelude.{◌≡◌, ℕ, ◌-◌, false, Ok, Err}
use Rattle.flash_model.specs.declared.flash.DevFault.TheVariants.{Failed, PowerCut}
use Rattle.driver_checks.specs.declared.area.Area.{Area}
use Rattle.driver_checks.specs.declared.expected.Expected.TheVariants.{Erased, Filled, Spoilt}
use Rattle.driver_checks.specs.Areas.{area_page}
use Rattle.driver_checks.specs.Driver.{Driver}
use Rattle.driver_checks.specs.Expectations.{PageMeets, BlockMeets}
use Rattle.driver_checks.specs.Trials.{Answer}

-- after a program of the last page of a block: its bytes, or neither these nor an erased page, or that there is no power
abbrev pub ShowsAfterProgram : ℕ → Area → ℕ → Answer → Driver → Type 0
ShowsAfterProgram round g own (Ok _) d = PageMeets (Filled round) g d.pages (area_page g own (g.sizes.pages - 1))
ShowsAfterProgram round g own (Err Failed) d = PageMeets Spoilt g d.pages (area_page g own (g.sizes.pages - 1))
ShowsAfterProgram round g own (Err PowerCut) d = d.powered ≡ false

-- after an erase of a block: erased pages, anything where it failed, or that there is no power
abbrev pub ShowsAfterErase : Area → ℕ → Answer → Driver → Type 0
ShowsAfterErase g own (Ok _) d = BlockMeets Erased g d.pages own 0 g.sizes.pages
ShowsAfterErase g own (Err Failed) d = Unit {0}
ShowsAfterErase g own (Err PowerCut) d = d.powered ≡ false
