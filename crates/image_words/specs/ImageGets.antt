-- How what stands at a path of an image becomes a file or a folder of the host.
use Rattle.std.specs.Prelude.{◌≡◌, ◌⊎◌, ℕ, false, Option, Result, Ok, Err, IfSome, List}
use Rattle.std.specs.Borrow.{Bor}
use Rattle.fs_types.specs.Names.{Path}
use Rattle.fs_types.specs.declared.call.View.{View}
use Rattle.flash_model.specs.Device.{Device}
use Rattle.flash_simulation.specs.Simulation.{device_of}
use Rattle.flash_simulation.specs.declared.sim_flash.SimFlash.{SimFlash}
use Rattle.host_interface.specs.Files.{Held, KeepsOthers, takes_away}
use Rattle.host_interface.specs.Folders.{Made}
use Rattle.image_words.specs.PathCopies.{IsCopiedOut, CopyCause}
use Rattle.image_words.specs.declared.path_copies.Copied.{Copied}
use Rattle.image_jobs.specs.Images.{IsSpelledFlash, IsUnclaimed, LoadCause, Unsaved}
use Rattle.image_jobs.specs.declared.failure.Failure.{Failure}
use Rattle.image_jobs.specs.InquiryWords.{view_spelled, IsMisspelled}
use Rattle.image_jobs.specs.PathWords.{path_spelled}

-- what was copied out is there: the bytes of a file are a file of the host, and no other file changes; a directory is a folder
abbrev pub IsSaved : Device → View → Path → List ℕ → (List Made → Type 0) → Held → Held → Copied → Type 0
IsSaved d view path file IsMade held saved (Copied.File bytes) =
    IsCopiedOut d view path file IsMade held held (Copied.File bytes) × IfSome (saved file) (λ all. all ≡ bytes) × KeepsOthers file held saved
IsSaved d view path file IsMade held saved Copied.Folder = IsCopiedOut d view path file IsMade held saved Copied.Folder

-- bytes are not written to a file, or not for good, and no other file changes
abbrev pub IsUnsaved : List ℕ → List ℕ → Held → Held → Failure → Type 0
IsUnsaved file bytes held saved failure = ((IsUnclaimed failure × (saved ≡ held)) ⊎ Unsaved (held file) (saved file) bytes failure) × KeepsOthers file held saved

-- what stands at a path of a flash is copied out, and is there; or it is not copied out; or the bytes of a file are not written
abbrev pub SaveEnds : Device → View → Path → List ℕ → (List Made → Type 0) → Held → Held → Result (Unit {0}) Failure → Type 0
SaveEnds d view path file IsMade held saved (Ok done) = (copied : Copied) × IsSaved d view path file IsMade held saved copied
SaveEnds d view path file IsMade held saved (Err failure) = ((left : Device) × CopyCause d view path file held saved left failure)
    ⊎ ((bytes : List ℕ) × IsCopiedOut d view path file IsMade held held (Copied.File bytes) × IsUnsaved file bytes held saved failure)

-- words spell a path and a view, and an image is the flash
pub record IsLoaded (word : List ℕ) (seen : Option (Bor (List ℕ))) (held : Option (List ℕ)) (path : Path) (view : View) (flash : SimFlash) : Type 0 where
  pub is_path : path_spelled word ≡ Ok path
  pub is_view : view_spelled seen ≡ Ok view
  pub is_flash : IsSpelledFlash held flash

-- why there is none: words spell nothing, or the file gives no flash
abbrev pub IsUnloaded : List ℕ → Option (Bor (List ℕ)) → Option (List ℕ) → Failure → Type 0
IsUnloaded word seen held failure = IsMisspelled (path_spelled word) failure ⊎ (IsMisspelled (view_spelled seen) failure ⊎ LoadCause held failure)

-- what stands at a path of an image becomes a file or a folder of the host. Else no file changes, as where that takes the image
-- away, or there is no flash; or it is not copied out, or not written
abbrev pub GetEnds : List ℕ → Option (Bor (List ℕ)) → List ℕ → List ℕ → (List Made → Type 0) → Held → Held → Result (Unit {0}) Failure → Type 0
GetEnds word seen name file IsMade held saved result =
    ((path : Path) × (view : View) × (flash : SimFlash) × (takes_away file name ≡ false) × IsLoaded word seen (held name) path view flash × SaveEnds (device_of flash) view path file IsMade held saved result)
    ⊎ ((failure : Failure) × (result ≡ Err failure) × (IsUnclaimed failure ⊎ IsUnloaded word seen (held name) failure) × (saved ≡ held))
