-- Why a mount is refused.
use Rattle.fs_types.specs.declared.fault.Fault.{Fault}
use Rattle.flash_model.specs.Device.{Device}
use Rattle.flash_model.specs.Reading.{OnlyReads}
use Rattle.system.specs.Mounts.{AsksUntilRefused, MountCause}

-- a mount of a flash, which left it so, is refused: the flash was only read, by no more than a mount may ask for, and what was on
-- it, or what the reads left of the device, is the cause
abbrev pub RefusesMount : Device → Device → Fault → Type 0
RefusesMount old left fault = OnlyReads old left × AsksUntilRefused old left × MountCause old left fault
