-- How an image is made of a folder, step by step.
use Rattle.std.proofs.Common.{◌≡◌, ◌⊎◌, ℕ, Bool, true, false, Option, Result, Ok, Err, IfSome, IfErr, OnOk, List, [], map, inl, inr, refl, ◌∙◌, sym, subst}
use Rattle.flash_simulation.specs.Simulation.{device_of}
use Rattle.flash_simulation.specs.declared.sim_flash.SimFlash.{SimFlash}
use Rattle.flash_simulation.specs.Images.{image_of}
use Rattle.fs_types.specs.Names.{Path}
use Rattle.host_interface.specs.Files.{Held, readings_of}
use Rattle.host_interface.specs.Sources.{Found, source_found}
use Rattle.image_jobs.specs.Images.{IsUnclaimed, IsImageFile, Unsaved, FormatFailure}
use Rattle.image_jobs.specs.declared.failure.Failure.{Failure}
use Rattle.put_jobs.specs.Batches.{IsBatch}
use Rattle.put_jobs.specs.Places.{AreOthers}
use Rattle.put_jobs.specs.Puts.{FoundCause, left_in}
use Rattle.put_jobs.specs.declared.batch.Batch.{Batch}
use Rattle.put_jobs.proofs.FlashLemmas.{puts_given, cause_given}
use Rattle.script_runs.specs.Flashes.{IsMade}
use Rattle.image_words.specs.Creations.{IsFilled, UnfilledCause, MakesEnd, CreateEnds, sizes_of}
use Rattle.image_words.specs.declared.creation.NewImage.{NewImage}

-- all that stands there, where it is refused below a path
abbrev pub IsUngathered : Bool → List ℕ → Option (List Found) → Path → Failure → Type 0
IsUngathered skips name gathered base failure = (all : List Found) × IfSome gathered (λ found. all ≡ found) × FoundCause true skips name base all failure

pub ungathered : (skips : Bool) (name : List ℕ) (gathered : Option (List Found)) (base : Path) (failure : Failure) → base ≡ [] → (failure ≡ Failure.Memory) ⊎ IsUngathered skips name gathered base failure
    → IsUnclaimed failure ⊎ IsUngathered skips name gathered [] failure
ungathered skips name gathered base failure root (inl memory) = inl (subst IsUnclaimed (sym memory) tt)
ungathered skips name gathered base failure root (inr cause) = inr (subst (λ (x : Path). IsUngathered skips name gathered x failure) root cause)

pub created : (image : NewImage) (skips : Bool) (name : List ℕ) (Reads : List ℕ → List ℕ → Type 0) (gathered : Option (List Found)) (base : Path) (batch : Batch) (held claimed saved : Held) (result : Result (Unit {0}) Failure) → base ≡ [] → claimed ≡ held
    → (all : List Found) × IfSome gathered (λ found. all ≡ found) × IsBatch true skips base all batch → AreOthers name (map source_found batch.sources.items)
    → MakesEnd image name Reads batch.base (map source_found batch.sources.items) claimed saved result → CreateEnds image skips name Reads held saved gathered result
created image skips name Reads gathered base batch held claimed saved result root same (all, known, is) others ends =
    let sources : MakesEnd image name Reads batch.base (left_in skips all) claimed saved result = subst (λ (x : List Found). MakesEnd image name Reads batch.base x claimed saved result) is.sources ends in
    let below : MakesEnd image name Reads [] (left_in skips all) claimed saved result = subst (λ (x : Path). MakesEnd image name Reads x (left_in skips all) claimed saved result) (is.base ∙ root) sources in
    inl (all, known, is.folder, subst (AreOthers name) is.sources others, subst (λ (x : Held). MakesEnd image name Reads [] (left_in skips all) x saved result) same below)

filled_given : (image : NewImage) (Now Reads : List ℕ → List ℕ → Type 0) → ((source bytes : List ℕ) → Now source bytes → Reads source bytes) → (base : Path) (all : List Found) (held : Held) (flash : SimFlash)
    → IsFilled (sizes_of image all) image.history base all (readings_of held Now) flash → IsFilled (sizes_of image all) image.history base all (readings_of held Reads) flash
filled_given image Now Reads given base all held flash (start, puts) = (start, puts_given (IsMade (sizes_of image all) image.history) held Now Reads given [] base all start flash puts)

-- a flash was filled, and its image is written, or not
pub made : (image : NewImage) (name : List ℕ) (Now Reads : List ℕ → List ℕ → Type 0) → ((source bytes : List ℕ) → Now source bytes → Reads source bytes) → (base : Path) (all : List Found) (held saved : Held) (flash : SimFlash) (result : Result (Unit {0}) Failure)
    → IsFilled (sizes_of image all) image.history base all (readings_of held Now) flash → OnOk result (IsImageFile (saved name) flash) → IfErr result (Unsaved (held name) (saved name) (image_of (device_of flash)))
    → MakesEnd image name Reads base all held saved result
made image name Now Reads given base all held saved flash (Ok done) filled file unsaved = (flash, filled_given image Now Reads given base all held flash filled, file)
made image name Now Reads given base all held saved flash (Err failure) filled file unsaved = inr (flash, filled_given image Now Reads given base all held flash filled, unsaved)

-- none was filled
pub unmade : (image : NewImage) (name : List ℕ) (Now Reads : List ℕ → List ℕ → Type 0) → ((source bytes : List ℕ) → Now source bytes → Reads source bytes) → (base : Path) (all : List Found) (held : Held) (failure : Failure)
    → UnfilledCause (sizes_of image all) image.history base all (readings_of held Now) failure → MakesEnd image name Reads base all held held (Err failure)
unmade image name Now Reads given base all held failure cause =
    inl (cause_given (IsMade (sizes_of image all) image.history) (FormatFailure (sizes_of image all) image.history) held Now Reads given [] base all failure cause, refl)
