-- Moments: a flash, and the system that is mounted on it.
use Rattle.std.specs.Prelude.{Result}
use Rattle.fs_types.specs.declared.call.Call.{Call}
use Rattle.fs_types.specs.declared.call.Reply.{Reply}
use Rattle.fs_types.specs.declared.fault.Fault.{Fault}
use Rattle.flash_model.specs.Device.{Device}
use Rattle.system.specs.Steps.{SystemStep}
use Rattle.system.specs.declared.systems.System.{System}

pub record SystemMoment : Type 0 where
  pub device : Device
  pub system : System

abbrev pub system_moment : Device → System → SystemMoment
system_moment d m = record { device = d; system = m }

-- a call takes its step from one moment to another, and is answered so
abbrev pub StepsAt : SystemMoment → Call → Result Reply Fault → SystemMoment → Type 0
StepsAt before call result after = SystemStep before.device before.system call result after.device after.system
