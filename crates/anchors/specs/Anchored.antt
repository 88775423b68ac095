-- What erases and programs of anchors lead to, with the list of bad blocks.
use Rattle.std.specs.Prelude.{◌≡◌, ◌≢◌, ◌⊎◌, ℕ, ◌+◌, ◌*◌, ◌<◌, ◌≤◌, Bool, true, false, Result, Ok, Err, IfOk, IfErr, if◌then◌else◌}
use Rattle.std.specs.FinSet as set
use Rattle.std.specs.Ordering.{nat_cmp}
use Rattle.fs_types.specs.declared.fault.Fault.{Fault}
use Rattle.fs_types.specs.declared.limits.TheConstants.{ANCHORS}
use Rattle.flash_model.specs.declared.flash.DevFault.{DevFault}
use Rattle.flash_model.specs.declared.flash.DevFault.TheVariants.{Failed, PowerCut}
use Rattle.flash_model.specs.Device.{Device, Page, erased, unreadable, block_of, failed, Wears}

-- no page of a data block changes, and the list grows by exactly the failures, by anchors that are worn
pub record OnlyAnchors (old : Device) (was : set.FinSet nat_cmp) (new : Device) (now : set.FinSet nat_cmp) : Type 0 where
  pub geometry : new.geometry ≡ old.geometry
  pub data_pages : (p : ℕ) → ANCHORS ≤ block_of old p → new.pages p ≡ old.pages p
  pub stays_bad : (b : ℕ) → set.contains was b ≡ true → set.contains now b ≡ true
  pub bad_anchor : (b : ℕ) → set.contains now b ≡ true → set.contains was b ≡ false → b < ANCHORS
  pub bad_worn : (b : ℕ) → set.contains now b ≡ true → set.contains was b ≡ false → new.worn b ≡ true
  pub worn : (b : ℕ) → old.worn b ≡ true → new.worn b ≡ true
  pub failures : new.failures + set.len was ≡ old.failures + set.len now
  pub failed_reads : old.failed_reads ≤ new.failed_reads
  pub cuts : old.cuts ≤ new.cuts
  pub was_on : new.powered ≡ true → old.powered ≡ true
  pub stays_off : old.powered ≡ false → new ≡ old
  pub list_off : old.powered ≡ false → now ≡ was

-- the power after an answer
abbrev pub PowerLeft : Device → Result (Unit {0}) DevFault → Type 0
PowerLeft new (Ok _) = Unit {0}
PowerLeft new (Err Failed) = new.powered ≡ true
PowerLeft new (Err PowerCut) = new.powered ≡ false

-- erases and programs in one block, of which only the last may not have been done
pub record Touches (old : Device) (b : ℕ) (new : Device) (result : Result (Unit {0}) DevFault) : Type 0 where
  pub geometry : new.geometry ≡ old.geometry
  pub others : (p : ℕ) → block_of old p ≢ b → new.pages p ≡ old.pages p
  pub worn : Wears old new b result
  pub failures : new.failures ≡ old.failures + failed result
  pub failed_reads : new.failed_reads ≡ old.failed_reads
  pub cuts : old.cuts ≤ new.cuts
  pub was_on : new.powered ≡ true → old.powered ≡ true
  pub stays_off : old.powered ≡ false → new ≡ old
  pub power : PowerLeft new result

-- so many operations were asked for on a block, none after one that failed
abbrev pub AsksInTurn : Device → Device → ℕ → Bool → Type 0
AsksInTurn old new n true = (new.failures ≡ old.failures) × (new.operations ≡ old.operations + n)
AsksInTurn old new n false = (new.failures ≡ old.failures + 1) × (old.operations < new.operations) × (new.operations ≤ old.operations + n)

-- power went
abbrev pub IsPowerCut : Device → Fault → Type 0
IsPowerCut new fault = (fault ≡ Fault.PowerCut) × (new.powered ≡ false)

-- an anchor enters the list exactly where an operation failed
abbrev pub list_after : set.FinSet nat_cmp → ℕ → Result Bool Fault → set.FinSet nat_cmp
list_after was anchor (Ok done) = if done then was else set.insert was anchor
list_after was anchor (Err fault) = was

-- what so many operations on one anchor leave, of which only the last may not have been done
pub record ChangesAnchor (old : Device) (was : set.FinSet nat_cmp) (new : Device) (now : set.FinSet nat_cmp) (anchor n : ℕ) (result : Result Bool Fault) : Type 0 where
  pub list : now ≡ list_after was anchor result
  pub others : (p : ℕ) → block_of old p ≢ anchor → new.pages p ≡ old.pages p
  pub only_anchors : OnlyAnchors old was new now
  pub tries : IfOk result (AsksInTurn old new n)
  pub operations : new.operations ≤ old.operations + n
  pub why : IfErr result (IsPowerCut new)

-- each page is as it was, erased or unreadable
abbrev pub Fades : (ℕ → Page) → (ℕ → Page) → Type 0
Fades was now = (p : ℕ) → (now p ≡ was p) ⊎ ((now p ≡ erased) ⊎ (now p ≡ unreadable))

-- what an erase of an anchor leaves: where it was done its pages are erased; else each is so, unreadable, or as it was
pub record ErasesAnchor (old : Device) (was : set.FinSet nat_cmp) (new : Device) (now : set.FinSet nat_cmp) (anchor : ℕ) (result : Result Bool Fault) : Type 0 where
  pub erased : IfOk result (λ done. done ≡ true → (p : ℕ) → block_of old p ≡ anchor → new.pages p ≡ erased)
  pub fades : Fades old.pages new.pages
  pub changes : ChangesAnchor old was new now anchor 1 result
  pub reads : new.failed_reads ≡ old.failed_reads

-- n operations were asked for, and more only on blocks that failed: on each of these one at least, an erase and all its pages at most
pub record Asked (old new : Device) (n : ℕ) : Type 0 where
  pub failed : ℕ
  pub failures : new.failures ≡ old.failures + failed
  pub least : old.operations + n + failed ≤ new.operations
  pub most : new.operations ≤ old.operations + n + failed * (old.geometry.pages + 1)

-- the anchors below n that are not in the list are erased
abbrev pub AreErased : Device → set.FinSet nat_cmp → ℕ → Type 0
AreErased d bad n = (p : ℕ) → block_of d p < n → set.contains bad (block_of d p) ≡ false → d.pages p ≡ erased
