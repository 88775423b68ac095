-- The flash that a serial NOR part is.
use Rattle.std.specs.Prelude.{◌≡◌, ℕ, List, true, false}
use Rattle.flash_model.specs.Device.{Device}
use Rattle.nor_part.specs.declared.nor.Nor.{Ghosts}
use Rattle.nor_part.specs.declared.nor_flash.NorFlash.{NorFlash}
use Rattle.nor_part.specs.Layout.{part_sizes, blocks_of, page_in}
use Rattle.nor_part.specs.States.{device_with}

module _ {P : Type 0} {nor : Ghosts P} where
  -- the device: its pages are those that the part holds
  abbrev pub nor_device : NorFlash P nor → Device
  nor_device flash = device_with (part_sizes flash.blocks) (page_in (nor.held flash.part)) flash.state

  -- the part
  abbrev pub nor_of : NorFlash P nor → P
  nor_of flash = flash.part

-- a flash that was made over a part which holds these pages: power is on, no block is worn, and nothing happened yet
pub record IsOver (held : ℕ → List ℕ) (count : ℕ) (d : Device) : Type 0 where
  pub geometry : d.geometry ≡ part_sizes (blocks_of count)
  pub pages : d.pages ≡ page_in held
  pub powered : d.powered ≡ true
  pub worn : (b : ℕ) → d.worn b ≡ false
  pub failed_reads : d.failed_reads ≡ 0
  pub failures : d.failures ≡ 0
  pub cuts : d.cuts ≡ 0
  pub operations : d.operations ≡ 0
