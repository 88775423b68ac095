-- Why a flash is not read.
use Rattle.std.specs.Prelude.{◌≡◌, ◌<◌, false}
use Rattle.fs_types.specs.declared.fault.Fault.{Fault}
use Rattle.fs_types.specs.declared.fault.Fault.TheVariants.{ReadFailed, PowerCut, NoMemory}
use Rattle.flash_model.specs.Device.{Device}

-- a read failed; power is off; memory was wanted
abbrev pub ReadCause : Device → Device → Fault → Type 0
ReadCause old new ReadFailed = old.failed_reads < new.failed_reads
ReadCause old new PowerCut = new.powered ≡ false
ReadCause old new NoMemory = Unit {0}
ReadCause old new _ = ⊥
