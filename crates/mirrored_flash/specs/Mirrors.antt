-- A mirror in memory of a part: the device that it is.
use Rattle.std.specs.Prelude.{◌≡◌, ℕ, List, length}
use Rattle.flash_model.specs.Device.{Device, bytes_of}
use Rattle.flash_simulation.specs.Simulation.{device_of}
use Rattle.flash_simulation.specs.WholePages.{whole_pages_of}
use Rattle.mirrored_flash.specs.declared.mirror.Mirror.{Mirror}

-- the device: its pages and worn blocks are those that are shown
abbrev pub mirror_device : Mirror → Device
mirror_device mirror = record (device_of mirror.shown) {
  powered = mirror.powered;
  failed_reads = 0;
  failures = mirror.failures.n;
  cuts = mirror.cuts.n;
  operations = mirror.operations.n;
}

-- each page that is shown with data has the bytes of a whole page
pub whole_mirrored_pages : (mirror : Mirror) (p : ℕ) (bytes : List ℕ) → (mirror_device mirror).pages p ≡ bytes_of bytes → length bytes ≡ (mirror_device mirror).geometry.page
whole_mirrored_pages mirror p bytes same = whole_pages_of mirror.shown p bytes same
