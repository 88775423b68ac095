-- What an attempt to write bytes to a block leaves.
use Rattle.std.specs.Prelude.{◌≡◌, ◌≢◌, ◌⊎◌, ℕ, ◌+◌, ◌*◌, ◌<◌, ◌≤◌, Bool, true, false, List, Result, Ok, Err}
use Rattle.flash_model.specs.declared.flash.DevFault.{DevFault}
use Rattle.flash_model.specs.declared.flash.DevFault.TheVariants.{Failed, PowerCut}
use Rattle.flash_model.specs.Device.{Device, Page, bytes_of, erased, unreadable, block_of, failed}
use Rattle.node_store.specs.NodePages.{page_bytes, HasPages}

-- whether a page holds bytes
abbrev pub has_data : Page → Bool
has_data (bytes_of _) = true
has_data _ = false

-- no page of a block has data behind one that has none
pub record IsInOrder (d : Device) (b : ℕ) : Type 0 where
  pub behind : (j k : ℕ) → j < k → k < d.geometry.pages → has_data (d.pages (b * d.geometry.pages + j)) ≡ false
      → has_data (d.pages (b * d.geometry.pages + k)) ≡ false

-- what the erase of a block leaves that was not done: each of its pages is as it was, erased or unreadable
abbrev pub IsUnerased : Device → ℕ → Device → Type 0
IsUnerased old b new = (p : ℕ) → block_of old p ≡ b → (new.pages p ≡ old.pages p) ⊎ ((new.pages p ≡ erased) ⊎ (new.pages p ≡ unreadable))

-- the pages of a block were programmed from place 0 on, unless it was not erased
abbrev pub IsFilledInOrder : Device → ℕ → Device → Type 0
IsFilledInOrder old b new = IsUnerased old b new ⊎ IsInOrder new b

-- the block has the bytes, or is worn, or power is off
abbrev pub IsBlockWritten : Device → ℕ → List ℕ → Result (Unit {0}) DevFault → Type 0
IsBlockWritten new b bytes (Ok _) = HasPages new b bytes
IsBlockWritten new b bytes (Err Failed) = new.worn b ≡ true
IsBlockWritten new b bytes (Err PowerCut) = new.powered ≡ false

-- the pages of one block alone changed, and at most one operation failed, the last one
pub record WritesBlock (old : Device) (b : ℕ) (bytes : List ℕ) (new : Device) (result : Result (Unit {0}) DevFault) : Type 0 where
  pub geometry : new.geometry ≡ old.geometry
  pub others : (p : ℕ) → block_of old p ≢ b → new.pages p ≡ old.pages p
  pub worn : (c : ℕ) → old.worn c ≡ true → new.worn c ≡ true
  pub failures : new.failures ≡ old.failures + failed result
  pub failed_reads : new.failed_reads ≡ old.failed_reads
  pub cuts : old.cuts ≤ new.cuts
  pub was_on : new.powered ≡ true → old.powered ≡ true
  pub stays_off : old.powered ≡ false → new ≡ old
  pub order : IsFilledInOrder old b new
  pub ends : IsBlockWritten new b bytes result

-- the pages before a place have their bytes, those from it on are erased, and no operation failed so far
pub record IsWriting (old : Device) (b : ℕ) (bytes : List ℕ) (place : ℕ) (new : Device) : Type 0 where
  pub geometry : new.geometry ≡ old.geometry
  pub others : (p : ℕ) → block_of old p ≢ b → new.pages p ≡ old.pages p
  pub written : (j : ℕ) → j < place → new.pages (b * old.geometry.pages + j) ≡ bytes_of (page_bytes old.geometry.page j bytes)
  pub blank : (j : ℕ) → place ≤ j → j < old.geometry.pages → new.pages (b * old.geometry.pages + j) ≡ erased
  pub worn : (c : ℕ) → new.worn c ≡ old.worn c
  pub failures : new.failures ≡ old.failures
  pub failed_reads : new.failed_reads ≡ old.failed_reads
  pub cuts : old.cuts ≤ new.cuts
  pub was_on : new.powered ≡ true → old.powered ≡ true
  pub stays_off : old.powered ≡ false → new ≡ old
