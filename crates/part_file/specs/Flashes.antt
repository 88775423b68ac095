-- A flash on a part in a flat file.
use Rattle.std.specs.Prelude.{◌≡◌, ℕ, List, length}
use Rattle.flash_model.specs.Device.{Device, bytes_of}
use Rattle.host_interface.specs.declared.backing.Backing.{Ghosts}
use Rattle.mirrored_flash.specs.Mirrors.{mirror_device, whole_mirrored_pages}
use Rattle.part_file.specs.declared.file_driver.FileDriver.{FileDriver}
use Rattle.part_file.specs.declared.part_flash.PartFlash.{PartFlash}
use Rattle.part_file.specs.Pages.{HoldsPart}
use Rattle.part_file.specs.Parts.{backing_of, is_lost}

module _ {B : Type 0} {backing : Ghosts B} where
  -- the device: that of its mirror
  abbrev pub part_device : PartFlash B backing → Device
  part_device flash = mirror_device flash.mirror

  -- the driver, and the bytes behind it
  abbrev pub driver_of : PartFlash B backing → FileDriver B
  driver_of flash = flash.driver

  abbrev pub backing_behind : PartFlash B backing → B
  backing_behind flash = backing_of flash.driver.part

  -- each page that is shown with data has the bytes of a whole page
  pub whole_part_pages : (flash : PartFlash B backing) (p : ℕ) (bytes : List ℕ) → (part_device flash).pages p ≡ bytes_of bytes → length bytes ≡ (part_device flash).geometry.page
  whole_part_pages flash p bytes same = whole_mirrored_pages flash.mirror p bytes same

  -- while it is not lost, the file is the part of what is shown
  pub held_part : (flash : PartFlash B backing) → HoldsPart (is_lost (driver_of flash)) (backing.held (backing_behind flash)) (part_device flash)
  held_part flash = flash.held
