-- How a job ends that tells the map of an image, or makes a page of it.
use Rattle.std.specs.Prelude.{◌≡◌, ◌⊎◌, ℕ, false, Option, Result, Ok, Err, IfSome, List, take}
use Rattle.std.specs.Io.KnownBytes.{Appends}
use Rattle.flash_simulation.specs.Simulation.{device_of}
use Rattle.flash_simulation.specs.declared.sim_flash.SimFlash.{SimFlash}
use Rattle.block_usage.specs.Maps.{IsMap, MapCause}
use Rattle.block_usage.specs.HtmlPages.{map_page}
use Rattle.block_usage.specs.MapTexts.{map_text}
use Rattle.block_usage.specs.declared.block_kind.BlockKind.{BlockKind}
use Rattle.block_usage.specs.declared.maps.MapFault.{MapFault}
use Rattle.host_interface.specs.Files.{Held, takes_away}
use Rattle.image_jobs.specs.Failures.{of_system, of_refusal}
use Rattle.image_jobs.specs.Images.{IsSpelledFlash, IsUnclaimed, LoadCause, Unsaved}
use Rattle.image_jobs.specs.declared.failure.Failure.{Failure}
use Rattle.script_runs.specs.declared.scripts.Refusal.{Refusal}

-- these are the kinds of the blocks of the flash of an image
pub record AreKindsOf (held : Option (List ℕ)) (kinds : List BlockKind) : Type 0 where
  pub flash : SimFlash
  pub there : IsSpelledFlash held flash
  pub map : IsMap (device_of flash) kinds

-- a text is the map of an image
pub record IsMapText (held : Option (List ℕ)) (text : List ℕ) : Type 0 where
  pub kinds : List BlockKind
  pub are : AreKindsOf held kinds
  pub spelled : text ≡ map_text kinds

-- bytes are the page of the map of an image
pub record IsMapPage (held : Option (List ℕ)) (page : List ℕ) : Type 0 where
  pub kinds : List BlockKind
  pub are : AreKindsOf held kinds
  pub spelled : page ≡ map_page kinds

-- by why there is no map
abbrev pub of_map : MapFault → Failure
of_map (MapFault.Unmounted fault) = of_system fault
of_map (MapFault.Refused fault) = of_refusal (Refusal.Fault fault)

-- a flash has no map, for this cause, as it was left
pub record IsUnmapped (held : Option (List ℕ)) (failure : Failure) : Type 0 where
  pub flash : SimFlash
  pub there : IsSpelledFlash held flash
  pub left : SimFlash
  pub fault : MapFault
  pub why : MapCause (device_of flash) (device_of left) fault
  pub told : failure ≡ of_map fault

-- why there is no text: there is no flash, or it has no map, or memory is wanted for it
abbrev pub UnmappedCause : Option (List ℕ) → Failure → Type 0
UnmappedCause held failure = LoadCause held failure ⊎ (IsUnmapped held failure ⊎ (failure ≡ Failure.Memory))

-- the map of an image is written; or there is none, and nothing is written; or the output fails
abbrev pub MapEnds : Option (List ℕ) → Result (Unit {0}) Failure → Option (List ℕ) → Option (List ℕ) → Type 0
MapEnds held (Ok done) old new = (text : List ℕ) × IsMapText held text × Appends old new text
MapEnds held (Err failure) old new = (UnmappedCause held failure × (new ≡ old))
    ⊎ ((text : List ℕ) × (n : ℕ) × IsMapText held text × (failure ≡ Failure.Output) × Appends old new (take n text))

-- a file becomes the page of the map of an image, and does not take the image away. Else no file changes, as where it does, or there
-- is no map; or the page is not written, or not for good
abbrev pub MapPageEnds : List ℕ → List ℕ → Held → Held → Result (Unit {0}) Failure → Type 0
MapPageEnds name file held saved (Ok done) = (page : List ℕ) × (takes_away file name ≡ false) × IsMapPage (held name) page × IfSome (saved file) (λ all. all ≡ page)
MapPageEnds name file held saved (Err failure) = ((IsUnclaimed failure ⊎ UnmappedCause (held name) failure) × (saved ≡ held))
    ⊎ ((page : List ℕ) × (takes_away file name ≡ false) × IsMapPage (held name) page × Unsaved (held file) (saved file) page failure)
