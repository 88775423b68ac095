-- How files of the host are put into the file of an image.
use Rattle.std.specs.Prelude.{◌≡◌, ◌⊎◌, ℕ, Bool, false, Option, Result, Ok, Err, List}
use Rattle.fs_types.specs.Names.{Path}
use Rattle.flash_simulation.specs.Simulation.{device_of}
use Rattle.flash_simulation.specs.declared.sim_flash.SimFlash.{SimFlash}
use Rattle.flash_simulation.specs.Images.{image_of}
use Rattle.image_jobs.specs.Images.{IsSpelledFlash, LoadCause, IsUnclaimed, SavesChange, ChangeUnsaved}
use Rattle.host_interface.specs.Files.{Held, readings_of}
use Rattle.put_jobs.specs.Mirrors.{wants_folder, kept_asked, PutsOver, OverCause}
use Rattle.put_jobs.specs.Puts.{IsAsked, GatherCause, is_no_folder, left_in}
use Rattle.put_lots.specs.declared.kept.Kept.{Kept}
use Rattle.host_interface.specs.Sources.{Found}
use Rattle.put_jobs.specs.Places.{AreOthers}
use Rattle.image_jobs.specs.declared.failure.Failure.{Failure}

-- sources, of which the bytes are those that are read then, are put into an image, of which the bytes are those of the claimed file,
-- on a flash of them that gives the flash as it is left; what is removed first is that of the image's tree
abbrev pub PutsInto : List ℕ → (List ℕ → Type 0) → (List ℕ → List ℕ → Type 0) → Path → Option (List Kept) → List Found → Held → SimFlash → SimFlash → Type 0
PutsInto name IsClaimed Reads base kept all held start end = IsClaimed (image_of (device_of start))
    × PutsOver (IsSpelledFlash (held name)) (readings_of held Reads) base kept all start end

-- why they are not: the image is not claimed, or not had, or its cause has what is put
abbrev pub UnputCause : List ℕ → (List ℕ → List ℕ → Type 0) → Path → Option (List Kept) → List Found → Held → Failure → Type 0
UnputCause name Reads base kept all held failure = IsUnclaimed failure
    ⊎ (LoadCause (held name) failure ⊎ OverCause (IsSpelledFlash (held name)) (LoadCause (held name)) (readings_of held Reads) base kept all failure)

-- sources are put into an image, which is written then. Else no file changes, or the image that is left is not written, or not for
-- good
abbrev pub SourcesEnd : List ℕ → (List ℕ → Type 0) → (List ℕ → List ℕ → Type 0) → Path → Option (List Kept) → List Found → Held → Held → Result (Unit {0}) Failure → Type 0
SourcesEnd name IsClaimed Reads base kept all held saved (Ok done) = (start : SimFlash) × (end : SimFlash) × PutsInto name IsClaimed Reads base kept all held start end
    × SavesChange name held saved (image_of (device_of start)) (image_of (device_of end))
SourcesEnd name IsClaimed Reads base kept all held saved (Err failure) = (UnputCause name Reads base kept all held failure × (saved ≡ held))
    ⊎ ((start : SimFlash) × (end : SimFlash) × PutsInto name IsClaimed Reads base kept all held start end
    × ChangeUnsaved name held saved (image_of (device_of start)) (image_of (device_of end)) failure)

-- all that stands at a name of the host is put into an image, below the path that a word spells, but for what is left out; none of
-- it is the image or its new file, by their names
abbrev pub PutEnds : Bool → Bool → List ℕ → List ℕ → (List ℕ → Type 0) → (List ℕ → List ℕ → Type 0) → Held → Held → Option (List Found) → Result (Unit {0}) Failure → Type 0
PutEnds mirror skips name word IsClaimed Reads held saved gathered result =
    ((base : Path) × (all : List Found) × IsAsked gathered word base all × (is_no_folder (wants_folder mirror skips) all ≡ false) × AreOthers name (left_in skips all)
    × SourcesEnd name IsClaimed Reads base (kept_asked mirror all) (left_in skips all) held saved result)
    ⊎ ((failure : Failure) × (result ≡ Err failure) × GatherCause (wants_folder mirror skips) skips name gathered word failure × (saved ≡ held))
