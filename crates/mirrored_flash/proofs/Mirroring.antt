-- A mirror of which the pages alone have changed.
use Rattle.std.proofs.Common.{◌≡◌, ap}
use Rattle.flash_simulation.specs.declared.sim_flash.SimFlash.{SimFlash}
use Rattle.flash_model.specs.Device.{Device}
use Rattle.flash_simulation.specs.Simulation.{device_of}
use Rattle.mirrored_flash.specs.declared.mirror.Mirror.{Mirror}
use Rattle.mirrored_flash.specs.Mirrors.{mirror_device}

-- the device once this is shown
abbrev pub mirrored : Mirror → SimFlash → Device
mirrored mirror shown = mirror_device (record mirror { shown = shown })

-- where pages alone have changed in what is shown, they alone have in the device
pub mirrored-pages : (mirror : Mirror) (shown : SimFlash)
    → device_of shown ≡ record (device_of mirror.shown) { pages = (device_of shown).pages }
    → mirrored mirror shown ≡ record (mirror_device mirror) { pages = (mirrored mirror shown).pages }
mirrored-pages mirror shown same = ap (λ (d : Device). record d {
  powered = mirror.powered;
  failed_reads = 0;
  failures = mirror.failures.n;
  cuts = mirror.cuts.n;
  operations = mirror.operations.n;
}) same
