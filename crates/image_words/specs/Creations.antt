-- An image that is made of a folder of the host.
use Rattle.std.specs.Prelude.{◌≡◌, ◌⊎◌, ℕ, Bool, true, false, Option, Some, None, Result, Ok, Err, IfSome, List, []}
use Rattle.flash_simulation.specs.Simulation.{device_of}
use Rattle.flash_model.specs.declared.geometry.Geometry.{Geometry}
use Rattle.flash_simulation.specs.declared.sim_flash.SimFlash.{SimFlash}
use Rattle.flash_simulation.specs.Images.{image_of}
use Rattle.fs_types.specs.Names.{Path}
use Rattle.host_interface.specs.Files.{Held, Readings, readings_of}
use Rattle.host_interface.specs.Sources.{Found}
use Rattle.image_jobs.specs.Images.{IsUnclaimed, IsImageFile, Unsaved, FormatFailure}
use Rattle.image_jobs.specs.declared.failure.Failure.{Failure}
use Rattle.image_sizes.specs.FolderSizes.{blocks_for}
use Rattle.put_jobs.specs.Places.{AreOthers}
use Rattle.put_jobs.specs.Puts.{PutsBy, PutCause, FoundCause, is_no_folder, left_in}
use Rattle.script_runs.specs.Flashes.{IsMade}
use Rattle.image_words.specs.declared.creation.NewImage.{NewImage}

-- the blocks of an image for what is put: as many as are asked for, else as many as that wants, up to the most there may be
abbrev pub blocks_of : NewImage → List Found → ℕ
blocks_of image all = elim (image.blocks) as (λ blocks. ℕ) [
  | Some blocks ↦ blocks
  | None ↦ blocks_for (record { page = image.page; pages = image.pages; blocks = 0 }) image.history all
]

abbrev pub sizes_of : NewImage → List Found → Geometry
sizes_of image all = record { page = image.page; pages = image.pages; blocks = blocks_of image all }

-- a flash as it is left where all is put, below a path, on a new flash of these sizes with an empty file system
abbrev pub IsFilled : Geometry → ℕ → Path → List Found → Readings → SimFlash → Type 0
IsFilled sizes limit base all readings end = (start : SimFlash) × PutsBy (IsMade sizes limit) [] readings base all start end

-- why there is none: no flash is made, or not all is put on it
abbrev pub UnfilledCause : Geometry → ℕ → Path → List Found → Readings → Failure → Type 0
UnfilledCause sizes limit base all readings failure = PutCause (IsMade sizes limit) (FormatFailure sizes limit) [] readings base all failure

-- a file is the image of such a flash; else it is as it was, or the image is not written, or not for good
abbrev pub MakesEnd : NewImage → List ℕ → (List ℕ → List ℕ → Type 0) → Path → List Found → Held → Held → Result (Unit {0}) Failure → Type 0
MakesEnd image name Reads base all held saved (Ok done) = (flash : SimFlash) × IsFilled (sizes_of image all) image.history base all (readings_of held Reads) flash × IsImageFile (saved name) flash
MakesEnd image name Reads base all held saved (Err failure) = (UnfilledCause (sizes_of image all) image.history base all (readings_of held Reads) failure × (saved name ≡ held name))
    ⊎ ((flash : SimFlash) × IsFilled (sizes_of image all) image.history base all (readings_of held Reads) flash × Unsaved (held name) (saved name) (image_of (device_of flash)) failure)

-- an image is made of all that stands in a folder of the host, but for what is left out; none of it is the image or its new file, by
-- their names. Else the file is as it was: the name is not claimed, what stands there is no folder, or not all of it may be put
abbrev pub CreateEnds : NewImage → Bool → List ℕ → (List ℕ → List ℕ → Type 0) → Held → Held → Option (List Found) → Result (Unit {0}) Failure → Type 0
CreateEnds image skips name Reads held saved gathered result =
    ((all : List Found) × IfSome gathered (λ found. all ≡ found) × (is_no_folder true all ≡ false) × AreOthers name (left_in skips all)
    × MakesEnd image name Reads [] (left_in skips all) held saved result)
    ⊎ ((failure : Failure) × (result ≡ Err failure) × (IsUnclaimed failure ⊎ ((all : List Found) × IfSome gathered (λ found. all ≡ found) × FoundCause true skips name [] all failure))
    × (saved ≡ held))
