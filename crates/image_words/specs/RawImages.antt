-- Bytes of a serial NOR part that are made of an image, and images made of them: how that ends.
use Rattle.std.specs.Prelude.{◌≡◌, ◌≢◌, ◌≤◌, ◌*◌, ◌⊎◌, ℕ, false, Option, Some, None, Result, Ok, Err, IfSome, List, length, take}
use Rattle.fs_types.specs.declared.fault.Fault.{Fault}
use Rattle.flash_model.specs.Device.{Device}
use Rattle.flash_simulation.specs.Simulation.{device_of}
use Rattle.flash_simulation.specs.declared.sim_flash.SimFlash.{SimFlash}
use Rattle.flash_simulation.specs.Images.{image_of}
use Rattle.host_interface.specs.Files.{Held, takes_away}
use Rattle.host_interface.specs.declared.image_files.TheConstants.{MOST_BYTES}
use Rattle.image_jobs.specs.Images.{IsSpelledFlash, IsUnclaimed, LoadCause, Unsaved}
use Rattle.image_jobs.specs.declared.failure.Failure.{Failure}
use Rattle.raw_part.specs.Layouts.{HasLayout, pages_of, part_block}
use Rattle.raw_part.specs.Raws.{IsRawFlash, IsRawLength, IsRawOf}
use Rattle.raw_part.specs.declared.part_layout.PartLayout.{PartLayout}
use Rattle.image_words.specs.declared.raw_sizes.RawSizes.{RawSizes}

-- a file becomes the bytes of the part of a flash; or that is not written, or not for good
abbrev pub WritesRaw : Device → Option (List ℕ) → Option (List ℕ) → Result (Unit {0}) Failure → Type 0
WritesRaw d held left (Ok done) = IfSome left (IsRawOf d)
WritesRaw d held left (Err failure) = (bytes : List ℕ) × IsRawOf d bytes × Unsaved held left bytes failure

-- a file becomes the image of a flash; or that is not written, or not for good
abbrev pub WritesImage : Device → Option (List ℕ) → Option (List ℕ) → Result (Unit {0}) Failure → Type 0
WritesImage d held left (Ok done) = IfSome left (λ bytes. bytes ≡ image_of d)
WritesImage d held left (Err failure) = Unsaved held left (image_of d) failure

-- why a flash has no such bytes: no layout has its pages and blocks; or for want of memory
abbrev pub RawCause : Device → Failure → Type 0
RawCause d Failure.Memory = Unit {0}
RawCause d (Failure.System fault) = (fault ≡ Fault.BadGeometry) × ¬ HasLayout d.geometry
RawCause d _ = ⊥

-- the sizes that are asked for are those of a layout
abbrev pub AsksLayout : RawSizes → PartLayout → Type 0
AsksLayout sizes layout = (sizes.page ≡ 256) × (sizes.pages ≡ pages_of layout)

-- what is taken of the bytes of a part: all of them; or those of the first blocks, where so many are asked for and there
abbrev pub IsTaken : PartLayout → Option ℕ → List ℕ → List ℕ → Type 0
IsTaken layout None bytes part = part ≡ bytes
IsTaken layout (Some blocks) bytes part = (part_block layout * blocks ≤ length bytes) × (part ≡ take (part_block layout * blocks) bytes)

-- the flash of what is taken
abbrev pub IsTakenFlash : PartLayout → Option ℕ → List ℕ → Device → Type 0
IsTakenFlash layout blocks bytes d = (part : List ℕ) × IsTaken layout blocks bytes part × IsRawFlash layout part d

-- what is taken has no length that a part has, or there are fewer blocks
abbrev pub IsNoPart : PartLayout → Option ℕ → List ℕ → Type 0
IsNoPart layout blocks bytes = (part : List ℕ) → IsTaken layout blocks bytes part → ¬ IsRawLength layout (length part)

-- why bytes give no flash: what is taken is no part; or for want of memory
abbrev pub TakenCause : PartLayout → Option ℕ → List ℕ → Failure → Type 0
TakenCause layout blocks bytes Failure.Memory = Unit {0}
TakenCause layout blocks bytes (Failure.System fault) = (fault ≡ Fault.BadGeometry) × IsNoPart layout blocks bytes
TakenCause layout blocks bytes _ = ⊥

-- the flash of the part that a file has the bytes of, in the layout that is asked for
abbrev pub IsRawFile : RawSizes → Option (List ℕ) → Device → Type 0
IsRawFile sizes held d = (layout : PartLayout) × AsksLayout sizes layout × IfSome held (λ bytes. IsTakenFlash layout sizes.blocks (take MOST_BYTES bytes) d)

-- no layout is asked for, or what is taken of the file is no part in it
abbrev pub GivesNoPart : RawSizes → Option (List ℕ) → Type 0
GivesNoPart sizes held =
    ((layout : PartLayout) → ¬ AsksLayout sizes layout)
    ⊎ ((layout : PartLayout) × AsksLayout sizes layout × IfSome held (λ bytes. IsNoPart layout sizes.blocks (take MOST_BYTES bytes)))

-- why a file gives no flash: it is not read, and then its bytes are not known; or for want of memory; or pages or blocks of
-- another size are asked for; or what is taken of it is no part
abbrev pub RawFileCause : RawSizes → Option (List ℕ) → Failure → Type 0
RawFileCause sizes held Failure.CannotRead = held ≡ None
RawFileCause sizes held Failure.Memory = Unit {0}
RawFileCause sizes held (Failure.System fault) = (fault ≡ Fault.BadGeometry) × GivesNoPart sizes held
RawFileCause sizes held _ = ⊥

-- a file becomes the bytes of the part of what an image holds, and does not take the image away. Else no file changes: the file is
-- not claimed, the image is not had, or it has no such bytes
abbrev pub RawEnds : List ℕ → List ℕ → Held → Held → Result (Unit {0}) Failure → Type 0
RawEnds image name held saved result =
    ((failure : Failure) × (result ≡ Err failure) × (IsUnclaimed failure ⊎ LoadCause (held image) failure) × (saved ≡ held))
    ⊎ ((flash : SimFlash) × (takes_away name image ≡ false) × IsSpelledFlash (held image) flash
    × (((failure : Failure) × (result ≡ Err failure) × RawCause (device_of flash) failure × (saved ≡ held)) ⊎ WritesRaw (device_of flash) (held name) (saved name) result))

-- a file becomes the image of what a part holds, and does not take the file of its bytes away. Else no file changes: the file is
-- not claimed, or the part is not had
abbrev pub FromRawEnds : RawSizes → List ℕ → List ℕ → Held → Held → Result (Unit {0}) Failure → Type 0
FromRawEnds sizes raw name held saved result =
    ((failure : Failure) × (result ≡ Err failure) × (IsUnclaimed failure ⊎ RawFileCause sizes (held raw) failure) × (saved ≡ held))
    ⊎ ((flash : SimFlash) × (takes_away name raw ≡ false) × IsRawFile sizes (held raw) (device_of flash)
    × WritesImage (device_of flash) (held name) (saved name) result)
