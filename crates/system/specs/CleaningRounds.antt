-- What it leaves of a flash to clean blocks: those that are free and not blank are erased.
use Rattle.std.specs.Prelude.{◌≡◌, ◌≢◌, ◌⊎◌, ℕ, ◌+◌, ◌-◌, ◌*◌, ◌<◌, ◌≤◌, Bool, true, false, not, count_by, Option, Some, None, Result, Ok, Err}
use Rattle.std.specs.FinSet as set
use Rattle.std.specs.List.{range_with_len}
use Rattle.std.specs.Ordering.{nat_cmp}
use Rattle.fs_types.specs.declared.limits.TheConstants.{MAX_BAD_BLOCKS}
use Rattle.fs_types.specs.declared.fault.Fault.{Fault}
use Rattle.fs_types.specs.declared.fault.Fault.TheVariants.{ReadOnly, PowerCut}
use Rattle.flash_model.specs.Device.{Device, erased, block_of}
use Rattle.flash_model.specs.Geometry.{IsGeometry}
use Rattle.block_ring.specs.Ring.{IsDataBlock, is_busy}
use Rattle.node_store.specs.Fitting.{Fits, StillFits}
use Rattle.node_store.specs.Storage.{DeviceGoesOn}
use Rattle.node_store.specs.declared.storage.Storage.{Storage}

-- each page of a block is erased
abbrev pub IsBlank : Device → ℕ → Type 0
IsBlank d b = (j : ℕ) → j < d.geometry.pages → d.pages (b * d.geometry.pages + j) ≡ erased

-- a block is neither used nor bad
abbrev pub is_free : Storage → ℕ → Bool
is_free s b = not (is_busy s.ring s.bad b)

-- a data block that is free
abbrev pub IsFreeBlock : Storage → ℕ → Type 0
IsFreeBlock s b = IsDataBlock s.ring.blocks b × (is_free s b ≡ true)

-- how many blocks are free from one on, up to another
abbrev pub free_between : Storage → ℕ → ℕ → ℕ
free_between s from to = count_by (is_free s) (range_with_len from (to - from))

-- a block is one of these
abbrev pub IsLooked : Storage → ℕ → ℕ → ℕ → Type 0
IsLooked s from to b = (from ≤ b) × (b < to) × (is_free s b ≡ true)

-- the sizes are lawful, the ring is one of this flash, and what nodes are kept with fits it
pub record IsCleanable (d : Device) (s : Storage) : Type 0 where
  pub lawful : IsGeometry d.geometry
  pub ring_blocks : s.ring.blocks ≡ d.geometry.blocks
  pub fits : Fits d s

-- the free blocks from one on, up to another, were looked at, and what that leaves, whatever was met: pages change in these
-- alone, the ring stays, and those that are bad now are worn, one for each failure
pub record LooksAt (d : Device) (s : Storage) (from to : ℕ) (e : Device) (t : Storage) : Type 0 where
  pub device : DeviceGoesOn d e
  pub pages : (p : ℕ) → (IsLooked s from to (block_of d p) → ⊥) → e.pages p ≡ d.pages p
  pub ring : t.ring ≡ s.ring
  pub stays_bad : (b : ℕ) → set.contains s.bad b ≡ true → set.contains t.bad b ≡ true
  pub new_bad : (b : ℕ) → set.contains t.bad b ≡ true → set.contains s.bad b ≡ false → IsLooked s from to b × (e.worn b ≡ true)
  pub failures : e.failures + set.len s.bad ≡ d.failures + set.len t.bad
  pub fits : StillFits d s e t
  -- each page of them was read once at most, and each of them erased once at most; and none, where all are blank and no read failed
  pub asks : e.operations ≤ d.operations + free_between s from to * (d.geometry.pages + 1)
  pub asks_blank : ((b : ℕ) → IsLooked s from to b → IsBlank d b) → e.failed_reads ≡ d.failed_reads
      → e.operations ≤ d.operations + free_between s from to * d.geometry.pages
  -- and a blank one is listed as bad only where a read failed. So none is erased, since each erase may fail
  pub blank_stays : (b : ℕ) → IsLooked s from to b → IsBlank d b → e.failed_reads ≡ d.failed_reads → set.contains t.bad b ≡ set.contains s.bad b

-- free data blocks were erased, and what that leaves: pages change in these alone, the ring stays, and those that are bad now
-- are worn, one for each failure
pub record ErasesFree (d : Device) (s : Storage) (e : Device) (t : Storage) : Type 0 where
  pub device : DeviceGoesOn d e
  pub pages : (p : ℕ) → (IsFreeBlock s (block_of d p) → ⊥) → e.pages p ≡ d.pages p
  pub ring : t.ring ≡ s.ring
  pub stays_bad : (b : ℕ) → set.contains s.bad b ≡ true → set.contains t.bad b ≡ true
  pub new_bad : (b : ℕ) → set.contains t.bad b ≡ true → set.contains s.bad b ≡ false → IsFreeBlock s b × (e.worn b ≡ true)
  pub failures : e.failures + set.len s.bad ≡ d.failures + set.len t.bad
  pub fits : StillFits d s e t

-- each of them is blank, or bad
abbrev pub AreClean : Storage → ℕ → ℕ → Device → Storage → Type 0
AreClean s from to e t = (b : ℕ) → IsLooked s from to b → (set.contains t.bad b ≡ true) ⊎ IsBlank e b

-- a block was erased, or that failed: its pages alone change, and it goes into the bad list where that failed
pub record ErasesBlock (d : Device) (bad : set.FinSet nat_cmp) (b : ℕ) (e : Device) (bad' : set.FinSet nat_cmp) : Type 0 where
  pub device : DeviceGoesOn d e
  pub others : (p : ℕ) → block_of d p ≢ b → e.pages p ≡ d.pages p
  pub failed_reads : e.failed_reads ≡ d.failed_reads
  pub operations : e.operations ≤ d.operations + 1
  pub stays_bad : (c : ℕ) → set.contains bad c ≡ true → set.contains bad' c ≡ true
  pub new_bad : (c : ℕ) → set.contains bad' c ≡ true → set.contains bad c ≡ false → (c ≡ b) × (e.worn c ≡ true)
  pub failures : e.failures + set.len bad ≡ d.failures + set.len bad'

-- why that is refused: the device is off; the bad list is at its limit
abbrev pub CleanCause : Device → set.FinSet nat_cmp → Fault → Type 0
CleanCause e bad PowerCut = e.powered ≡ false
CleanCause e bad ReadOnly = set.len bad ≡ MAX_BAD_BLOCKS
CleanCause e bad _ = ⊥

-- how it ends: at the free block that is looked at next, where as many were looked at as may be; or at the last block
abbrev pub CleanEnds : Storage → ℕ → ℕ → ℕ → Result (Option ℕ) Fault → Device → Storage → Type 0
CleanEnds s from to budget (Ok (Some next)) e t =
    (next ≡ to) × (next < s.ring.blocks) × (is_free t next ≡ true) × (free_between s from to ≡ budget) × AreClean s from to e t
CleanEnds s from to budget (Ok None) e t = (s.ring.blocks ≤ to) × AreClean s from to e t
CleanEnds s from to budget (Err fault) e t = CleanCause e t.bad fault

-- a round went on from one block on, over so many free blocks at most
pub record CleansBlocks (d : Device) (s : Storage) (from budget : ℕ) (result : Result (Option ℕ) Fault) (e : Device) (t : Storage) : Type 0 where
  pub to : ℕ
  pub looks : LooksAt d s from to e t
  pub few : free_between s from to ≤ budget
  pub within : (b : ℕ) → from ≤ b → b < to → b < s.ring.blocks
  pub ends : CleanEnds s from to budget result e t
