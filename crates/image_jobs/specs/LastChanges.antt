-- What the present version of an image has otherwise than the one before it.
use Rattle.std.specs.Prelude.{◌≡◌, ◌⊎◌, ℕ, Bool, Option, Some, None, Result, Ok, Err, List}
use Rattle.std.specs.Option.{option_map}
use Rattle.fs_types.specs.declared.call.View.{View}
use Rattle.fs_types.specs.declared.fault.Fault.{Fault}
use Rattle.flash_simulation.specs.Simulation.{device_of}
use Rattle.flash_simulation.specs.declared.sim_flash.SimFlash.{SimFlash}
use Rattle.history_machine.specs.History.{Past, present, undo_refusal, undone}
use Rattle.system.specs.Mounts.{IsMountOf}
use Rattle.system.specs.declared.systems.System.{System}
use Rattle.inquiries.specs.declared.inquiry.Inquiry.{Inquiry}
use Rattle.script_runs.specs.Scripts.{IsUnmounted}
use Rattle.script_runs.specs.declared.scripts.Refusal.{Refusal}
use Rattle.image_jobs.specs.Failures.{of_refusal, of_system}
use Rattle.image_jobs.specs.Images.{IsSpelledFlash, LoadCause}
use Rattle.image_jobs.specs.declared.failure.Failure.{Failure}
use Rattle.image_jobs.specs.Tellings.{DiffEnds}

-- the serial of the version to which an undo goes back
abbrev pub serial_before : Past ℕ → Option ℕ
serial_before past = option_map (λ version. version.serial) (present (undone past))

-- a file is an image, on which an undo goes back to the version of this serial
pub record IsBefore (held : Option (List ℕ)) (serial : ℕ) : Type 0 where
  pub start : SimFlash
  pub end : SimFlash
  pub system : System
  pub spelled : IsSpelledFlash held start
  pub mounted : IsMountOf (device_of start) (device_of end) system
  pub accepted : undo_refusal system.state.history ≡ None
  pub is : serial_before system.state.history ≡ Some serial

-- a file is an image, on which an undo is refused
pub record RefusesUndo (held : Option (List ℕ)) (failure : Failure) : Type 0 where
  pub start : SimFlash
  pub end : SimFlash
  pub system : System
  pub fault : Fault
  pub spelled : IsSpelledFlash held start
  pub mounted : IsMountOf (device_of start) (device_of end) system
  pub refused : undo_refusal system.state.history ≡ Some fault
  pub told : failure ≡ of_refusal (Refusal.Fault fault)

-- why no version is before the present one: there is no flash, or it is not mounted, or an undo is refused
abbrev pub HasNoneBefore : Option (List ℕ) → Failure → Type 0
HasNoneBefore held failure = LoadCause held failure
    ⊎ (((start : SimFlash) × (end : SimFlash) × (fault : Fault) × IsSpelledFlash held start × IsUnmounted start end fault × (failure ≡ of_system fault))
    ⊎ RefusesUndo held failure)

-- what differs between the version before and the present one is told; or there is none before, and nothing is written
abbrev pub LastChangeEnds : Bool → Option (List ℕ) → Result (Unit {0}) Failure → Option (List ℕ) → Option (List ℕ) → Type 0
LastChangeEnds exit_code held result old new =
    ((serial : ℕ) × IsBefore held serial × DiffEnds exit_code (Ok (Inquiry.Differences (View.Serial serial) View.Present)) held result old new)
    ⊎ ((failure : Failure) × HasNoneBefore held failure × (result ≡ Err failure) × (new ≡ old))
