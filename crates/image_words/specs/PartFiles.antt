-- Parts in flat files that are made, and images made of them: how that ends.
use Rattle.std.specs.Prelude.{◌≡◌, ◌⊎◌, ℕ, false, Option, Result, Ok, Err, IfSome, List}
use Rattle.flash_model.specs.Device.{Device}
use Rattle.flash_simulation.specs.Simulation.{device_of}
use Rattle.flash_model.specs.declared.geometry.Geometry.{Geometry}
use Rattle.flash_simulation.specs.declared.sim_flash.SimFlash.{SimFlash}
use Rattle.flash_simulation.specs.Images.{image_of}
use Rattle.host_interface.specs.Files.{Held, takes_away}
use Rattle.script_runs.specs.Flashes.{IsMade}
use Rattle.image_jobs.specs.Images.{FormatFailure, IsSpelledFlash, IsUnclaimed, LoadCause, Unsaved}
use Rattle.image_jobs.specs.declared.failure.Failure.{Failure}
use Rattle.part_file.specs.Reading.{IsPartFlash}
use Rattle.image_words.specs.PartFlashes.{IsWholePart, PartCause}

-- a file becomes the part of a flash; or that is not written, or not for good, also for want of memory for its bytes
abbrev pub WritesPart : Device → Option (List ℕ) → Option (List ℕ) → Result (Unit {0}) Failure → Type 0
WritesPart d held left (Ok done) = IfSome left (IsWholePart d)
WritesPart d held left (Err failure) = ((failure ≡ Failure.Memory) × (left ≡ held)) ⊎ ((bytes : List ℕ) × IsWholePart d bytes × Unsaved held left bytes failure)

-- a file becomes the image of a flash; or that is not written, or not for good
abbrev pub WritesImage : Device → Option (List ℕ) → Option (List ℕ) → Result (Unit {0}) Failure → Type 0
WritesImage d held left (Ok done) = IfSome left (λ bytes. bytes ≡ image_of d)
WritesImage d held left (Err failure) = Unsaved held left (image_of d) failure

-- a file becomes the part of a new flash of these sizes that was formatted; else none is made, and it is as it was
abbrev pub FormatPartEnds : Geometry → ℕ → Option (List ℕ) → Option (List ℕ) → Result (Unit {0}) Failure → Type 0
FormatPartEnds sizes limit held left result = ((failure : Failure) × (result ≡ Err failure) × FormatFailure sizes limit failure × (left ≡ held))
    ⊎ ((flash : SimFlash) × IsMade sizes limit flash × WritesPart (device_of flash) held left result)

-- a file becomes the part of what an image holds, and does not take the image away. Else no file changes: the file is not claimed,
-- or the image is not had
abbrev pub ToPartEnds : List ℕ → List ℕ → Held → Held → Result (Unit {0}) Failure → Type 0
ToPartEnds image name held saved result = ((failure : Failure) × (result ≡ Err failure) × (IsUnclaimed failure ⊎ LoadCause (held image) failure) × (saved ≡ held))
    ⊎ ((flash : SimFlash) × (takes_away name image ≡ false) × IsSpelledFlash (held image) flash × WritesPart (device_of flash) (held name) (saved name) result)

-- a file becomes the image of what a part holds, and does not take the part away. Else no file changes: the file is not claimed, or
-- the part is not had
abbrev pub FromPartEnds : List ℕ → List ℕ → Option (List ℕ) → Held → Held → Result (Unit {0}) Failure → Type 0
FromPartEnds part name placed held saved result = ((failure : Failure) × (result ≡ Err failure) × (IsUnclaimed failure ⊎ PartCause placed failure) × (saved ≡ held))
    ⊎ ((flash : SimFlash) × (takes_away name part ≡ false) × IsPartFlash placed (device_of flash) × WritesImage (device_of flash) (held name) (saved name) result)
