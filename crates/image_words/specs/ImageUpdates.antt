-- How the script that brings the tree of one image to that of another is told.
use Rattle.std.specs.Prelude.{◌≡◌, ◌⊎◌, ℕ, Bool, if◌then◌else◌, Option, Result, Ok, Err, List, take}
use Rattle.std.specs.Io.KnownBytes.{Appends}
use Rattle.flash_model.specs.Device.{Device}
use Rattle.flash_simulation.specs.Simulation.{device_of}
use Rattle.flash_simulation.specs.declared.sim_flash.SimFlash.{SimFlash}
use Rattle.inquiries.specs.declared.asking.AskFault.{AskFault}
use Rattle.updates.specs.Asked.{TellsUpdate, UpdateCause}
use Rattle.updates.specs.declared.manner.Manner.{Manner}
use Rattle.image_jobs.specs.Images.{IsSpelledFlash, LoadCause}
use Rattle.image_jobs.specs.declared.failure.Failure.{Failure}
use Rattle.image_jobs.specs.InquiryWords.{of_ask}

-- a file that two trees have is written whole, or only what differs is put over it
abbrev pub manner_asked : Bool → Manner
manner_asked changes = if changes then Manner.Patched else Manner.Whole

-- two files spell flashes
pub record AreLoaded (held other : Option (List ℕ)) (flash another : SimFlash) : Type 0 where
  pub first : IsSpelledFlash held flash
  pub second : IsSpelledFlash other another

-- these bytes are what brings the tree of one image to that of another
abbrev pub IsUpdateTold : Manner → Option (List ℕ) → Option (List ℕ) → List ℕ → Type 0
IsUpdateTold manner held other bytes = (first : SimFlash) × (second : SimFlash) × AreLoaded held other first second × TellsUpdate manner (device_of first) (device_of second) bytes

-- nothing is told of two flashes
abbrev pub IsUntoldOf : SimFlash → SimFlash → Failure → Type 0
IsUntoldOf first second failure = (left : Device) × (left' : Device) × (fault : AskFault) × UpdateCause (device_of first) (device_of second) left left' fault × (failure ≡ of_ask fault)

-- why there are none: a file gives no flash for its cause, or nothing is told of the two
abbrev pub UpdateUntold : Option (List ℕ) → Option (List ℕ) → Failure → Type 0
UpdateUntold held other failure = LoadCause held failure
    ⊎ (LoadCause other failure
    ⊎ ((first : SimFlash) × (second : SimFlash) × AreLoaded held other first second × IsUntoldOf first second failure))

-- they are written; or there are none, and nothing is written; or the output fails
abbrev pub UpdateEnds : Manner → Option (List ℕ) → Option (List ℕ) → Result (Unit {0}) Failure → Option (List ℕ) → Option (List ℕ) → Type 0
UpdateEnds manner held other (Ok done) old new = (bytes : List ℕ) × IsUpdateTold manner held other bytes × Appends old new bytes
UpdateEnds manner held other (Err failure) old new = (UpdateUntold held other failure × (new ≡ old))
    ⊎ ((bytes : List ℕ) × (n : ℕ) × IsUpdateTold manner held other bytes × (failure ≡ Failure.Output) × Appends old new (take n bytes))
