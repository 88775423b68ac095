-- What is done with the file of an image, and how it ends.
use Rattle.std.specs.Prelude.{◌≡◌, ◌≢◌, ◌⊎◌, ℕ, Bool, false, Option, Some, None, Result, Ok, Err, IfSome, List, [], take, codes}
use Rattle.std.specs.Io.KnownBytes.{Appends}
use Rattle.fs_types.specs.declared.fault.Fault.{Fault}
use Rattle.flash_model.specs.Geometry.{IsGeometry}
use Rattle.flash_model.specs.Plan.{plan_of_entries}
use Rattle.flash_simulation.specs.Simulation.{device_of, plan_of}
use Rattle.flash_simulation.specs.declared.sim_flash.SimFlash.{SimFlash}
use Rattle.flash_model.specs.declared.geometry.Geometry.{Geometry}
use Rattle.flash_simulation.specs.Images.{image_of, IsFault, IsFresh}
use Rattle.system.specs.Mounts.{IsMountOf}
use Rattle.system.specs.declared.systems.System.{System}
use Rattle.image_jobs.specs.Failures.{of_script, of_system}
use Rattle.host_interface.specs.Files.{Held}
use Rattle.script_runs.specs.Flashes.{IsNewFlash, IsMade, IsUnformatted}
use Rattle.script_runs.specs.Scripts.{Streams, streams_at, IsUnmounted, ScriptEnds}
use Rattle.host_interface.specs.declared.image_files.TheConstants.{MOST_BYTES}
use Rattle.image_jobs.specs.declared.failure.Failure.{Failure}
use Rattle.script_runs.specs.declared.scripts.ScriptFault.{ScriptFault}
use Rattle.script_runs.specs.declared.scripts.Stop.{Stop}

-- why the bytes of a file are not had: it is not read, and then they are not known; or for want of memory
abbrev pub IsUnread : Option (List ℕ) → Failure → Type 0
IsUnread held Failure.CannotRead = held ≡ None
IsUnread held Failure.Memory = Unit {0}
IsUnread held _ = ⊥

-- why bytes give no flash: for want of memory, or by their fault
abbrev pub DecodeCause : List ℕ → Failure → Type 0
DecodeCause bytes Failure.Memory = Unit {0}
DecodeCause bytes (Failure.Image fault) = IsFault fault bytes
DecodeCause bytes _ = ⊥

-- the flash that a file spells, with its power on and no fault planned
pub record IsSpelledFlash (held : Option (List ℕ)) (flash : SimFlash) : Type 0 where
  pub spelled : IfSome held (λ bytes. take MOST_BYTES bytes ≡ image_of (device_of flash))
  pub ready : IsFresh (device_of flash)
  pub plan : plan_of flash ≡ plan_of_entries []

-- why a file gives no flash: it is not read, and then its bytes are not known; or for want of memory, or by the fault of its
-- bytes
abbrev pub LoadCause : Option (List ℕ) → Failure → Type 0
LoadCause held Failure.CannotRead = held ≡ None
LoadCause held Failure.Memory = Unit {0}
LoadCause held (Failure.Image fault) = IfSome held (λ bytes. IsFault fault (take MOST_BYTES bytes))
LoadCause held _ = ⊥

-- where bytes are at fault, a read gave them
abbrev pub FaultRead : (List ℕ → Type 0) → Failure → Type 0
FaultRead Reads (Failure.Image fault) = (bytes : List ℕ) × Reads bytes × IsFault fault bytes
FaultRead Reads _ = Unit {0}

-- why a file is not claimed: it is no plain file, or another program has it; or for want of memory
abbrev pub IsUnclaimed : Failure → Type 0
IsUnclaimed Failure.Unavailable = Unit {0}
IsUnclaimed Failure.Memory = Unit {0}
IsUnclaimed _ = ⊥

-- a file is the image of a flash
abbrev pub IsImageFile : Option (List ℕ) → SimFlash → Type 0
IsImageFile held flash = IfSome held (λ bytes. bytes ≡ image_of (device_of flash))

-- what a file holds where an image is not written, or not for good: it is not brought to the disk
abbrev pub Unsaved : Option (List ℕ) → Option (List ℕ) → List ℕ → Failure → Type 0
Unsaved held left image Failure.CannotWrite = left ≡ held
Unsaved held left image Failure.Memory = left ≡ held
Unsaved held left image Failure.Unsynced = IfSome left (λ bytes. bytes ≡ image)
Unsaved held left image _ = ⊥

-- a file of these bytes is to be an image: no file changes where it is that image, else it is written
abbrev pub SavesChange : List ℕ → Held → Held → List ℕ → List ℕ → Type 0
SavesChange name held saved was image = ((image ≡ was) × (saved ≡ held)) ⊎ ((image ≢ was) × IfSome (saved name) (λ bytes. bytes ≡ image))

-- why it is not, or not for good: where it is that image already, for want of memory alone
abbrev pub ChangeUnsaved : List ℕ → Held → Held → List ℕ → List ℕ → Failure → Type 0
ChangeUnsaved name held saved was image failure = ((failure ≡ Failure.Memory) ⊎ (image ≢ was)) × Unsaved (held name) (saved name) image failure

-- why no image is made: its name is not claimed, or for want of memory; or the sizes or the limit are refused, or a format is
abbrev pub FormatFailure : Geometry → ℕ → Failure → Type 0
FormatFailure sizes limit Failure.Unavailable = Unit {0}
FormatFailure sizes limit Failure.Memory = Unit {0}
FormatFailure sizes limit (Failure.System fault) = ((fault ≡ Fault.BadGeometry) × (IsGeometry sizes → ⊥))
    ⊎ ((start : SimFlash) × (end : SimFlash) × IsNewFlash sizes start × IsUnformatted limit start end fault)
FormatFailure sizes limit _ = ⊥

-- a file is the image of a new flash of these sizes that was formatted; else no image is made and it is as it was, or one is
-- made and not written, or not for good
abbrev pub FormatEnds : Geometry → ℕ → Option (List ℕ) → Option (List ℕ) → Result (Unit {0}) Failure → Type 0
FormatEnds sizes limit held left (Ok done) = (flash : SimFlash) × IsMade sizes limit flash × IsImageFile left flash
FormatEnds sizes limit held left (Err failure) = (FormatFailure sizes limit failure × (left ≡ held))
    ⊎ ((flash : SimFlash) × IsMade sizes limit flash × Unsaved held left (image_of (device_of flash)) failure)

-- why a script did not run to its end: it stopped at a refused line, or failed
abbrev pub why_broken : Result (Option Stop) ScriptFault → Option Failure
why_broken (Ok None) = None
why_broken (Ok (Some at)) = Some (Failure.Stopped at)
why_broken (Err fault) = Some (of_script fault)

-- a script, which may be to stop at a refused line, is run on a flash that is found so, which gives the flash as it is left; or
-- there is none for its cause, and nothing is read or written; or the script does not run to its end
abbrev pub PlaysBy : Bool → (SimFlash → Type 0) → (Failure → Type 0) → Streams → Result SimFlash Failure → Streams → Type 0
PlaysBy stop Found Cause before (Ok end) after = (start : SimFlash) × Found start × ScriptEnds stop start end before (Ok None) after
PlaysBy stop Found Cause before (Err failure) after = (Cause failure × (after.input ≡ before.input) × (after.out ≡ before.out))
    ⊎ ((start : SimFlash) × (end : SimFlash) × (ended : Result (Option Stop) ScriptFault) × Found start × ScriptEnds stop start end before ended after
    × (why_broken ended ≡ Some failure))

-- a script is run on the flash of a file
abbrev pub Plays : Bool → Option (List ℕ) → Streams → Result SimFlash Failure → Streams → Type 0
Plays stop held = PlaysBy stop (IsSpelledFlash held) (LoadCause held)

-- a script is not run to its end on the flash of a file: the file is not claimed, and nothing is read or written, or the script
-- does not run to its end
abbrev pub BreaksOff : Bool → Option (List ℕ) → Streams → Failure → Streams → Type 0
BreaksOff stop held before failure after = (IsUnclaimed failure × (after.input ≡ before.input) × (after.out ≡ before.out)) ⊎ Plays stop held before (Err failure) after

-- what the program meets: the bytes of each file, what is left of its input, and what was written of its output
pub record Host : Type 0 where
  pub files : Held
  pub input : Option (List ℕ)
  pub out : Option (List ℕ)

abbrev pub host_at : Held → Option (List ℕ) → Option (List ℕ) → Host
host_at files input out = record { files = files; input = input; out = out }

abbrev pub streams_of : Host → Streams
streams_of host = streams_at host.input host.out

-- a script is run on the image of a name, of which the bytes are those of the claimed file: at its end the file is the image of
-- the flash that is left, and no file changes where it was that before, as after a script that programmed and erased nothing. Else
-- no file changes, or the image that is left is not written, or not for good
abbrev pub RunEnds : Bool → List ℕ → (List ℕ → Type 0) → Host → Result (Unit {0}) Failure → Host → Type 0
RunEnds stop name IsClaimed before (Ok done) after = (start : SimFlash) × (end : SimFlash) × IsClaimed (image_of (device_of start)) × IsSpelledFlash (before.files name) start
    × ScriptEnds stop start end (streams_of before) (Ok None) (streams_of after) × SavesChange name before.files after.files (image_of (device_of start)) (image_of (device_of end))
RunEnds stop name IsClaimed before (Err failure) after = (BreaksOff stop (before.files name) (streams_of before) failure (streams_of after) × (after.files ≡ before.files))
    ⊎ ((start : SimFlash) × (end : SimFlash) × IsClaimed (image_of (device_of start)) × IsSpelledFlash (before.files name) start × ScriptEnds stop start end (streams_of before) (Ok None) (streams_of after)
    × ChangeUnsaved name before.files after.files (image_of (device_of start)) (image_of (device_of end)) failure)

-- the replies to a script on an image are written
abbrev pub LookEnds : List ℕ → Option (List ℕ) → Result (Unit {0}) Failure → Option (List ℕ) → Option (List ℕ) → Type 0
LookEnds script held (Ok done) old new = (rest : Option (List ℕ)) × (end : SimFlash) × Plays false held (streams_at (Some script) old) (Ok end) (streams_at rest new)
LookEnds script held (Err failure) old new = (rest : Option (List ℕ)) × Plays false held (streams_at (Some script) old) (Err failure) (streams_at rest new)

-- an image is mounted, with `ok` written; or it gives no flash, or is not mounted, and nothing is written; or the output fails
abbrev pub CheckEnds : Option (List ℕ) → Result (Unit {0}) Failure → Option (List ℕ) → Option (List ℕ) → Type 0
CheckEnds held (Ok done) old new = (start : SimFlash) × (end : SimFlash) × (system : System) × IsSpelledFlash held start × IsMountOf (device_of start) (device_of end) system
    × Appends old new (codes "ok\n")
CheckEnds held (Err failure) old new = (LoadCause held failure × (new ≡ old))
    ⊎ (((start : SimFlash) × (end : SimFlash) × (fault : Fault) × IsSpelledFlash held start × IsUnmounted start end fault × (failure ≡ of_system fault) × (new ≡ old))
    ⊎ ((n : ℕ) × (failure ≡ Failure.Output) × Appends old new (take n (codes "ok\n"))))
