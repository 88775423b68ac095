-- What a flash over a part keeps beside the part.
use Rattle.std.specs.Prelude.{◌≡◌, ℕ, ◌+◌, List, Bool, true, false, vec_len, slice_index_or, Result}
use Rattle.flash_model.specs.declared.flash.DevFault.{DevFault}
use Rattle.flash_model.specs.declared.flash.PageState.{PageState}
use Rattle.flash_model.specs.declared.geometry.Geometry.{Geometry}
use Rattle.flash_model.specs.Device.{Device, Page, failed, cut, power_after}
use Rattle.nor_part.specs.declared.flash_state.FlashState.{FlashState}

-- the device of a flash of these sizes, with these pages and this state
abbrev pub device_with : Geometry → (ℕ → Page) → FlashState → Device
device_with sizes pages state = record {
  geometry = sizes;
  pages = pages;
  powered = state.powered;
  worn = λ block. slice_index_or state.worn.items block false;
  failed_reads = state.failed_reads.n;
  failures = state.failures.n;
  cuts = state.cuts.n;
  operations = state.operations.n;
}

-- power is on
abbrev pub is_powered : FlashState → Bool
is_powered state = state.powered

-- how many blocks
abbrev pub block_total : FlashState → ℕ
block_total state = vec_len state.worn

-- block by block, whether the flash erased it, as was answered, and did not program it since
abbrev pub cleaned_of : FlashState → List Bool
cleaned_of state = state.cleaned.items

abbrev pub is_cleaned : FlashState → ℕ → Bool
is_cleaned state block = slice_index_or (cleaned_of state) block false

-- power is on, no block is worn or was erased, and nothing happened
pub record IsNewState (blocks : ℕ) (state : FlashState) : Type 0 where
  pub blocks_are : block_total state ≡ blocks
  pub powered : state.powered ≡ true
  pub worn : (b : ℕ) → slice_index_or state.worn.items b false ≡ false
  pub cleaned : (b : ℕ) → is_cleaned state b ≡ false
  pub failed_reads : state.failed_reads.n ≡ 0
  pub failures : state.failures.n ≡ 0
  pub cuts : state.cuts.n ≡ 0
  pub operations : state.operations.n ≡ 0

-- a device on which a read has begun, with power on, once that read is answered so
abbrev pub read_ended : Device → Result PageState DevFault → Device
read_ended d result = record d { powered = power_after result; failed_reads = d.failed_reads + failed result; cuts = d.cuts + cut result }
