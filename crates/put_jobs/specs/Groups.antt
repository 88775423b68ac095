-- Events that are carried out in one change group, on the flash of an image.
use Rattle.std.specs.Prelude.{◌≡◌, ◌⊎◌, ℕ, Result, Ok, Err, List}
use Rattle.fs_types.specs.declared.event.Event.{Event}
use Rattle.flash_simulation.specs.Simulation.{device_of}
use Rattle.flash_simulation.specs.declared.sim_flash.SimFlash.{SimFlash}
use Rattle.flash_simulation.specs.Images.{image_of}
use Rattle.image_jobs.specs.Failures.{of_refusal}
use Rattle.image_jobs.specs.Images.{IsSpelledFlash, IsUnclaimed, LoadCause, SavesChange, ChangeUnsaved}
use Rattle.image_jobs.specs.declared.failure.Failure.{Failure}
use Rattle.host_interface.specs.Files.{Held}
use Rattle.script_runs.specs.declared.scripts.Refusal.{Refusal}
use Rattle.put_jobs.specs.Puts.{Carries, Breaks, UnmountedBy}

-- events are carried out, on a flash that is found so, which gives the flash as it is left
abbrev pub WritesBy : (SimFlash → Type 0) → List Event → SimFlash → SimFlash → Type 0
WritesBy IsThere events start end = IsThere start × Carries start events end

-- why they are not: there is no flash for its cause, or for want of memory; no system is mounted; or one of them is refused
abbrev pub WriteCause : (SimFlash → Type 0) → (Failure → Type 0) → List Event → Failure → Type 0
WriteCause IsThere Cause events failure = Cause failure ⊎ (UnmountedBy IsThere failure
    ⊎ ((start : SimFlash) × (refusal : Refusal) × IsThere start × Breaks start events refusal × (failure ≡ of_refusal refusal)))

-- events are carried out on an image, of which the bytes are those of the claimed file, and which is written then. Else no file
-- changes, or the image that is left is not written, or not for good
abbrev pub EventsEnd : List ℕ → (List ℕ → Type 0) → List Event → Held → Held → Result (Unit {0}) Failure → Type 0
EventsEnd name IsClaimed events held saved (Ok done) = (start : SimFlash) × (end : SimFlash) × IsClaimed (image_of (device_of start))
    × WritesBy (IsSpelledFlash (held name)) events start end × SavesChange name held saved (image_of (device_of start)) (image_of (device_of end))
EventsEnd name IsClaimed events held saved (Err failure) = ((IsUnclaimed failure ⊎ WriteCause (IsSpelledFlash (held name)) (LoadCause (held name)) events failure) × (saved ≡ held))
    ⊎ ((start : SimFlash) × (end : SimFlash) × IsClaimed (image_of (device_of start)) × WritesBy (IsSpelledFlash (held name)) events start end
    × ChangeUnsaved name held saved (image_of (device_of start)) (image_of (device_of end)) failure)
