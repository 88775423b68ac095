-- A flash whose driver is at the other end of two streams: the device that it is, and the driver.
use Rattle.std.specs.Prelude.{◌≡◌, ℕ, List, length, Option}
use Rattle.std.specs.declared.io.Read.{Ghosts as Reads}
use Rattle.std.specs.declared.io.Write.{Ghosts as Writes}
use Rattle.flash_model.specs.Device.{Device, bytes_of}
use Rattle.mirrored_flash.specs.Mirrors.{mirror_device, whole_mirrored_pages}
use Rattle.remote_flash.specs.declared.driver.Driver.{Driver}
use Rattle.remote_flash.specs.declared.told_flash.ToldFlash.{ToldFlash}
use Rattle.remote_flash.specs.Drivers.{driver_streams}
use Rattle.remote_flash.specs.Streams.{Streams}

module _ {R W : Type 0} {reads : Reads R} {writes : Writes W} where
  -- the device: that of its mirror
  abbrev pub told_device : ToldFlash R W reads writes → Device
  told_device flash = mirror_device flash.mirror

  -- the driver, with its streams as they stand
  abbrev pub driver_of : ToldFlash R W reads writes → Driver R W
  driver_of flash = flash.driver

  -- each page that is shown with data has the bytes of a whole page
  pub whole_shown_pages : (flash : ToldFlash R W reads writes) (p : ℕ) (bytes : List ℕ) → (told_device flash).pages p ≡ bytes_of bytes → length bytes ≡ (told_device flash).geometry.page
  whole_shown_pages flash p bytes same = whole_mirrored_pages flash.mirror p bytes same

-- the streams, where they tell their bytes
abbrev pub told_streams : {R W : Type 0} {reads : Reads R} {writes : Writes W} → (R → Option (List ℕ)) → (W → Option (List ℕ)) → ToldFlash R W reads writes → Streams
told_streams remaining contents flash = driver_streams remaining contents flash.driver
