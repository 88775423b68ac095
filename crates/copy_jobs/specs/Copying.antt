-- The history of an image, copied to a new one: how that ends.
use Rattle.std.specs.Prelude.{◌≡◌, ◌≢◌, ◌⊎◌, ℕ, Bool, true, false, Option, Some, Result, Ok, Err, List}
use Rattle.fs_types.specs.declared.fault.Fault.{Fault}
use Rattle.flash_model.specs.Device.{Device}
use Rattle.flash_model.specs.Reading.{OnlyReads}
use Rattle.flash_simulation.specs.Simulation.{device_of}
use Rattle.flash_simulation.specs.declared.sim_flash.SimFlash.{SimFlash}
use Rattle.flash_simulation.specs.Images.{image_of}
use Rattle.record_format.specs.declared.record.Record.{Record}
use Rattle.mounting.specs.Saved.{saved_on}
use Rattle.copies.specs.Causes.{CopyCause}
use Rattle.copies.specs.Copied.{IsCopied}
use Rattle.copies.specs.declared.uncopied.Uncopied.{Uncopied}
use Rattle.host_interface.specs.Files.{Held, takes_away}
use Rattle.script_runs.specs.Flashes.{IsMade}
use Rattle.script_runs.specs.Scripts.{IsUnmounted}
use Rattle.image_jobs.specs.Failures.{of_system}
use Rattle.image_jobs.specs.Images.{FormatFailure, IsImageFile, IsSpelledFlash, IsUnclaimed, LoadCause, Unsaved}
use Rattle.image_jobs.specs.declared.failure.Failure.{Failure}
use Rattle.copy_jobs.specs.Adding.{HasRestAfter, StopsAdding}
use Rattle.copy_jobs.specs.Copied.{limit_of, sizes_of}
use Rattle.copy_jobs.specs.Failures.{of_uncopied}
use Rattle.copy_jobs.specs.Sources.{IsSourceOf, UnsalvagedCause}
use Rattle.copy_jobs.specs.declared.asked_sizes.AskedSizes.{AskedSizes}
use Rattle.copy_jobs.specs.declared.copying.MadeCopy.{MadeCopy}
use Rattle.copy_jobs.specs.declared.source.Source.{Source}

-- a flash of the sizes that are asked for holds a copy of what is on another one, of which the newest record is this one
pub record IsCopyOf (asked : AskedSizes) (newest : Record) (first second : SimFlash) : Type 0 where
  pub read : SimFlash
  pub reads : OnlyReads (device_of first) (device_of read)
  pub copied : IsCopied (limit_of asked newest.limit) (device_of read) (device_of second)
  pub sizes : (device_of second).geometry ≡ sizes_of asked (device_of first).geometry

-- it has what is asked for, and else what the other one has
abbrev pub IsAskedCopy : AskedSizes → SimFlash → SimFlash → Type 0
IsAskedCopy asked first second = (newest : Record) × (saved_on (device_of first) ≡ Some newest) × IsCopyOf asked newest first second

-- the copy on a new flash has other sizes than that had
pub record ChangesSizes (limit : ℕ) (first second : SimFlash) (failure : Failure) : Type 0 where
  pub copy : SimFlash
  pub copied : IsCopied limit (device_of first) (device_of copy)
  pub others : (device_of copy).geometry ≢ (device_of second).geometry
  pub cause : failure ≡ Failure.System Fault.BadGeometry

-- why a new flash that is to keep so many versions gets no copy: the copying to it stops, or changes its sizes
abbrev pub StopsCopy : ℕ → SimFlash → SimFlash → Failure → Type 0
StopsCopy limit first second failure = ((left : Device) × (other : Device) × (why : Uncopied) × CopyCause (device_of first) (device_of second) left other why × (failure ≡ of_uncopied why))
    ⊎ ChangesSizes limit first second failure

-- what is on a flash is not copied to a new one, which has what is asked for
pub record IsStopped (asked : AskedSizes) (newest : Record) (first : SimFlash) (failure : Failure) : Type 0 where
  pub read : SimFlash
  pub reads : OnlyReads (device_of first) (device_of read)
  pub second : SimFlash
  pub made : IsMade (sizes_of asked (device_of first).geometry) (limit_of asked newest.limit) second
  pub cause : StopsCopy (limit_of asked newest.limit) read second failure

-- why a flash has no copy: it is not mounted; or no flash is made that has what is asked for, or the copying to it stops
abbrev pub UncopiedCause : AskedSizes → SimFlash → Failure → Type 0
UncopiedCause asked first failure = ((left : SimFlash) × (fault : Fault) × IsUnmounted first left fault × (failure ≡ of_system fault))
    ⊎ ((newest : Record) × (saved_on (device_of first) ≡ Some newest)
    × (FormatFailure (sizes_of asked (device_of first).geometry) (limit_of asked newest.limit) failure ⊎ IsStopped asked newest first failure))

-- a flash is a copy of what is copied of another one, with what comes after it; it is whole where that is
pub record IsMadeOf (asked : AskedSizes) (salvages : Bool) (first : SimFlash) (made : MadeCopy) : Type 0 where
  pub source : Source
  pub is_source : IsSourceOf asked salvages first source
  pub copy : SimFlash
  pub is_copy : IsAskedCopy asked source.flash copy
  pub after : HasRestAfter copy source.rest made.flash
  pub whole : made.is_whole ≡ source.is_whole

-- what is copied has a copy, and what comes after it is not added
pub record IsUnadded (asked : AskedSizes) (source : Source) (failure : Failure) : Type 0 where
  pub copy : SimFlash
  pub is_copy : IsAskedCopy asked source.flash copy
  pub one : SimFlash
  pub is_one : source.rest ≡ Some one
  pub stops : StopsAdding copy one failure

-- why there is none: nothing is saved of the other one, or what is copied of it has no copy, or that gets no version more
abbrev pub UnmadeCause : AskedSizes → Bool → SimFlash → Failure → Type 0
UnmadeCause asked salvages first failure =
    UnsalvagedCause asked salvages first failure ⊎ ((source : Source) × IsSourceOf asked salvages first source × (UncopiedCause asked source.flash failure ⊎ IsUnadded asked source failure))

-- a file becomes the image of a copy, and where something is lost the job ends with what tells so; or that is not written, or not
-- for good
abbrev pub SavesCopy : MadeCopy → Option (List ℕ) → Option (List ℕ) → Result (Unit {0}) Failure → Type 0
SavesCopy copy held left (Ok done) = (copy.is_whole ≡ true) × IsImageFile left copy.flash
SavesCopy copy held left (Err Failure.Differs) = (copy.is_whole ≡ false) × IsImageFile left copy.flash
SavesCopy copy held left (Err failure) = Unsaved held left (image_of (device_of copy.flash)) failure

-- a file becomes the image of a copy of what an image holds, and does not take the image away. Else no file changes: the file is not
-- claimed, the image is not had, or it has no copy
abbrev pub CopyEnds : AskedSizes → Bool → List ℕ → List ℕ → Held → Held → Result (Unit {0}) Failure → Type 0
CopyEnds asked salvages image name held saved result =
    ((failure : Failure) × (result ≡ Err failure) × (IsUnclaimed failure ⊎ LoadCause (held image) failure) × (saved ≡ held))
    ⊎ ((first : SimFlash) × (takes_away name image ≡ false) × IsSpelledFlash (held image) first
    × (((failure : Failure) × (result ≡ Err failure) × UnmadeCause asked salvages first failure × (saved ≡ held))
    ⊎ ((copy : MadeCopy) × IsMadeOf asked salvages first copy × SavesCopy copy (held name) (saved name) result)))
