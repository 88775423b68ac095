-- Scripts on a part in place in a flat file: how the program's job ends.
use Rattle.std.specs.Prelude.{◌≡◌, ◌⊎◌, ℕ, Option, Some, Result, Ok, Err, IfSome, List}
use Rattle.flash_model.specs.Device.{Device}
use Rattle.flash_simulation.specs.Images.{IsFresh}
use Rattle.script_runs.specs.Scripts.{Streams}
use Rattle.part_file.specs.Pages.{IsPart}
use Rattle.part_file.specs.Reading.{IsPartFault}
use Rattle.part_file.specs.declared.part_file.PartFault.{PartFault}
use Rattle.remote_sessions.specs.Sessions.{SessionEnds}
use Rattle.remote_sessions.specs.declared.session_fault.SessionFault.{SessionFault}
use Rattle.image_jobs.specs.Failures.{of_part, of_script, of_system}
use Rattle.image_jobs.specs.Images.{IsUnclaimed}
use Rattle.image_jobs.specs.declared.failure.Failure.{Failure}

-- by why a script on a flash ended
abbrev pub of_session : SessionFault → Failure
of_session (SessionFault.Format fault) = of_system fault
of_session (SessionFault.Script fault) = of_script fault

-- the file of a part holds these bytes when it is opened, where they are known
abbrev pub IsHeld : Option (List ℕ) → Option (List ℕ) → Type 0
IsHeld placed held = IfSome placed (λ all. held ≡ Some all)

-- a script ended so on the flash of the part in a file
pub record ServesPart (history : Option ℕ) (placed : Option (List ℕ)) (before : Streams) (result : Result (Unit {0}) SessionFault) (after : Streams) : Type 0 where
  pub held : Option (List ℕ)
  pub known : IsHeld placed held
  pub first : Device
  pub fresh : IsFresh first
  pub shown : IfSome held (IsPart first)
  pub last : Device
  pub ends : SessionEnds history first last before result after

-- the file gives no part
pub record IsNoPart (placed : Option (List ℕ)) (fault : PartFault) : Type 0 where
  pub held : Option (List ℕ)
  pub known : IsHeld placed held
  pub wrong : IfSome held (IsPartFault fault)

-- its file is not opened, or gives no part
abbrev pub IsUnserved : Option (List ℕ) → Failure → Type 0
IsUnserved placed failure = IsUnclaimed failure ⊎ ((fault : PartFault) × IsNoPart placed fault × (failure ≡ of_part fault))

-- a script is run on a part; or there is none, and nothing is read or written; or the script does not run to its end
abbrev pub ServePartEnds : Option ℕ → Option (List ℕ) → Streams → Result (Unit {0}) Failure → Streams → Type 0
ServePartEnds history placed before (Ok done) after = ServesPart history placed before (Ok done) after
ServePartEnds history placed before (Err failure) after = (IsUnserved placed failure × (after ≡ before))
    ⊎ ((fault : SessionFault) × ServesPart history placed before (Err fault) after × (failure ≡ of_session fault))
