-- How the archive of an image is told.
use Rattle.std.specs.Prelude.{◌≡◌, ◌⊎◌, ℕ, Option, Result, Ok, Err, List, take}
use Rattle.std.specs.Borrow.{Bor}
use Rattle.std.specs.Io.KnownBytes.{Appends}
use Rattle.fs_types.specs.declared.call.View.{View}
use Rattle.fs_types.specs.declared.fault.Fault.{Fault}
use Rattle.flash_model.specs.Device.{Device}
use Rattle.flash_simulation.specs.Simulation.{device_of}
use Rattle.flash_simulation.specs.declared.sim_flash.SimFlash.{SimFlash}
use Rattle.script_runs.specs.declared.scripts.Refusal.{Refusal}
use Rattle.image_jobs.specs.Failures.{of_system, of_refusal}
use Rattle.image_jobs.specs.Images.{IsSpelledFlash, LoadCause}
use Rattle.image_jobs.specs.declared.failure.Failure.{Failure}
use Rattle.image_jobs.specs.InquiryWords.{view_spelled, IsMisspelled}
use Rattle.archive_jobs.specs.Archiving.{ArchiveCause, IsArchived, IsCutShort}
use Rattle.archive_jobs.specs.declared.interruption.Interruption.{Interruption}
use Rattle.archive_jobs.specs.declared.unarchived.Unarchived.{Unarchived}
use Rattle.archive_jobs.specs.declared.unwritten.Unwritten.{Unwritten}

-- by why there is no archive: a path without room is one that is too long
abbrev pub of_unarchived : Unarchived → Failure
of_unarchived (Unarchived.Unmounted fault) = of_system fault
of_unarchived (Unarchived.Refused fault) = of_refusal (Refusal.Fault fault)
of_unarchived Unarchived.TooMuch = Failure.TooManyLines
of_unarchived (Unarchived.NoRoom path) = Failure.Refused (Refusal.Fault Fault.NameTooLong)

-- by why an archive is not written to its end
abbrev pub of_unwritten : Unwritten → Failure
of_unwritten (Unwritten.Unarchived why) = of_unarchived why
of_unwritten (Unwritten.Interrupted (Interruption.Met fault)) = of_refusal (Refusal.Fault fault)
of_unwritten (Unwritten.Interrupted Interruption.Output) = Failure.Output

-- words spell a view, and these bytes are the archive of its tree in an image
pub record IsToldArchive (seen : Option (Bor (List ℕ))) (held : Option (List ℕ)) (bytes : List ℕ) : Type 0 where
  pub view : View
  pub flash : SimFlash
  pub spelled : view_spelled seen ≡ Ok view
  pub there : IsSpelledFlash held flash
  pub archive : IsArchived (device_of flash) view bytes

-- a flash has no archive of a view
pub record HasNoArchive (held : Option (List ℕ)) (view : View) (failure : Failure) : Type 0 where
  pub flash : SimFlash
  pub left : Device
  pub why : Unarchived
  pub there : IsSpelledFlash held flash
  pub cause : ArchiveCause (device_of flash) view left why
  pub is : failure ≡ of_unarchived why

-- why there is none: the words spell no view; the file gives no flash; or that has no archive
abbrev pub IsUntoldArchive : Option (Bor (List ℕ)) → Option (List ℕ) → Failure → Type 0
IsUntoldArchive seen held failure = IsMisspelled (view_spelled seen) failure
    ⊎ (LoadCause held failure ⊎ ((view : View) × (view_spelled seen ≡ Ok view) × HasNoArchive held view failure))

-- a flash has an archive of a view, whose first entries are written, each whole, when the work meets this
pub record IsCutArchive (seen : Option (Bor (List ℕ))) (held : Option (List ℕ)) (failure : Failure) (old new : Option (List ℕ)) : Type 0 where
  pub view : View
  pub flash : SimFlash
  pub left : Device
  pub fault : Fault
  pub spelled : view_spelled seen ≡ Ok view
  pub there : IsSpelledFlash held flash
  pub cut : IsCutShort (device_of flash) view left old new fault
  pub is : failure ≡ of_refusal (Refusal.Fault fault)

-- the archive is written; or there is none, and nothing is written; or a read fails or memory is wanted, and its first entries are
-- written; or the output fails, and a beginning of it is written
abbrev pub TarEnds : Option (Bor (List ℕ)) → Option (List ℕ) → Result (Unit {0}) Failure → Option (List ℕ) → Option (List ℕ) → Type 0
TarEnds seen held (Ok done) old new = (bytes : List ℕ) × IsToldArchive seen held bytes × Appends old new bytes
TarEnds seen held (Err failure) old new = (IsUntoldArchive seen held failure × (new ≡ old))
    ⊎ (IsCutArchive seen held failure old new
    ⊎ ((bytes : List ℕ) × (n : ℕ) × IsToldArchive seen held bytes × (failure ≡ Failure.Output) × Appends old new (take n bytes)))
