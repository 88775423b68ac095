-- The flash that a serial NOR part of the dense layout is.
use Rattle.std.specs.Prelude.{◌≡◌, ℕ, List, true, false}
use Rattle.flash_model.specs.Device.{Device}
use Rattle.nor_part.specs.States.{device_with}
use Rattle.nor_part.specs.declared.nor.Nor.{Ghosts}
use Rattle.dense_nor.specs.declared.dense_flash.DenseNorFlash.{DenseNorFlash}
use Rattle.dense_nor.specs.Layout.{blocks_of, dense_sizes, page_in}

module _ {P : Type 0} {nor : Ghosts P} where
  -- the device: its pages are those that the part holds
  abbrev pub dense_device : DenseNorFlash P nor → Device
  dense_device flash = device_with (dense_sizes flash.layout.sectors flash.blocks) (page_in flash.layout.sectors (nor.held flash.part)) flash.state

  -- the part
  abbrev pub dense_of : DenseNorFlash P nor → P
  dense_of flash = flash.part

  -- sectors of a block
  abbrev pub sectors_of : DenseNorFlash P nor → ℕ
  sectors_of flash = flash.layout.sectors

-- a flash that was made over a part which holds these pages: power is on, no block is worn, and nothing happened yet
pub record IsOver (n : ℕ) (held : ℕ → List ℕ) (count : ℕ) (d : Device) : Type 0 where
  pub geometry : d.geometry ≡ dense_sizes n (blocks_of n count)
  pub pages : d.pages ≡ page_in n held
  pub powered : d.powered ≡ true
  pub worn : (b : ℕ) → d.worn b ≡ false
  pub failed_reads : d.failed_reads ≡ 0
  pub failures : d.failures ≡ 0
  pub cuts : d.cuts ≡ 0
  pub operations : d.operations ≡ 0
