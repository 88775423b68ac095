-- How the archive of an image is told, by how it is written.
use Rattle.std.proofs.Common.{◌≡◌, ◌∙◌, ℕ, Option, Result, Ok, Err, List, inl, inr, refl}
use Rattle.std.specs.Borrow.{Bor}
use Rattle.std.specs.Io.KnownBytes.{Appends}
use Rattle.fs_types.specs.declared.call.View.{View}
use Rattle.flash_model.specs.Device.{Device}
use Rattle.flash_simulation.specs.Simulation.{device_of}
use Rattle.flash_simulation.specs.declared.sim_flash.SimFlash.{SimFlash}
use Rattle.image_jobs.specs.Images.{IsSpelledFlash}
use Rattle.image_jobs.specs.declared.failure.Failure.{Failure}
use Rattle.image_jobs.specs.InquiryWords.{view_spelled}
use Rattle.archive_jobs.specs.Archiving.{IsArchived, UnwrittenCause}
use Rattle.archive_jobs.specs.declared.interruption.Interruption.{Interruption}
use Rattle.archive_jobs.specs.declared.unwritten.Unwritten.{Unwritten}
use Rattle.archive_jobs.specs.Tars.{TarEnds, of_unwritten}

module _ (seen : Option (Bor (List ℕ))) (held : Option (List ℕ)) (view : View) (flash : SimFlash) (spelled : view_spelled seen ≡ Ok view) (there : IsSpelledFlash held flash) (old new : Option (List ℕ)) where
  -- it is written to its end
  pub tar_written : (bytes : List ℕ) × IsArchived (device_of flash) view bytes × Appends old new bytes → TarEnds seen held (Ok tt) old new
  tar_written is = (is.0, record { view = view; flash = flash; spelled = spelled; there = there; archive = is.1 }, is.2)

  -- it is not
  pub tar_ended : (left : Device) (why : Unwritten) (failure : Failure) → UnwrittenCause (device_of flash) view left old new why → failure ≡ of_unwritten why → TarEnds seen held (Err failure) old new
  tar_ended left (Unwritten.Unarchived why) failure cause is =
      inl (inr (inr (view, spelled, record { flash = flash; left = left; why = why; there = there; cause = cause.0; is = is })), cause.1)
  tar_ended left (Unwritten.Interrupted (Interruption.Met fault)) failure cause is =
      inr (inl (record { view = view; flash = flash; left = left; fault = fault; spelled = spelled; there = there; cut = cause; is = is }))
  tar_ended left (Unwritten.Interrupted Interruption.Output) failure cause is =
      inr (inr (cause.0, cause.1, record { view = view; flash = flash; spelled = spelled; there = there; archive = cause.2 }, is, cause.3))
