-- A flash with the set of its bad blocks and the ring of its used ones: what calls of a store lead to.
use Rattle.std.specs.Prelude.{◌≡◌, ℕ, ◌+◌, ◌*◌, ◌<◌, ◌≤◌, Bool, true, false, List, length, Option, Some, None, Result, Ok, Err}
use Rattle.std.specs.FinSet as set
use Rattle.std.specs.Ordering.{nat_cmp}
use Rattle.fs_types.specs.declared.limits.TheConstants.{ANCHORS, MAX_BAD_BLOCKS}
use Rattle.fs_types.specs.declared.fault.Fault.{Fault}
use Rattle.fs_types.specs.declared.fault.Fault.TheVariants.{FlashFull, ReadOnly, PowerCut, NoMemory}
use Rattle.flash_model.specs.Device.{Device, block_of}
use Rattle.block_ring.specs.Ring.{Ring, IsDataBlock, IsNext, is_busy, free_count}
use Rattle.node_store.specs.NodePages.{node_of, HasPages, HoldsNode}
use Rattle.nodes.specs.PageCounts.{pages_for}
use Rattle.node_store.specs.Writing.{IsFilledInOrder}
use Rattle.flash_model.specs.Reading.{OnlyReads}

-- the parts that a store works on
pub record Storage : Type 0 where
  pub device : Device
  pub bad : set.FinSet nat_cmp
  pub ring : Ring

abbrev pub storage : Device → set.FinSet nat_cmp → Ring → Storage
storage d bads r = record { device = d; bad = bads; ring = r }

-- a block is kept where the ring has it as used
abbrev pub is_kept : Storage → ℕ → Bool
is_kept s b = set.contains s.ring.used b

-- the device has the same sizes; what is worn stays so, what happened is counted on, and power that is off changes nothing
pub record DeviceGoesOn (old new : Device) : Type 0 where
  pub geometry : new.geometry ≡ old.geometry
  pub worn : (b : ℕ) → old.worn b ≡ true → new.worn b ≡ true
  pub failed_reads : old.failed_reads ≤ new.failed_reads
  pub cuts : old.cuts ≤ new.cuts
  pub was_on : new.powered ≡ true → old.powered ≡ true
  pub stays_off : old.powered ≡ false → new ≡ old

-- pages change in those blocks alone that become kept: not in kept ones, in anchors, or in blocks that are not kept then
pub record PagesFill (s t : Storage) : Type 0 where
  pub kept_pages : (p : ℕ) → is_kept s (block_of s.device p) ≡ true → t.device.pages p ≡ s.device.pages p
  pub anchor_pages : (p : ℕ) → block_of s.device p < ANCHORS → t.device.pages p ≡ s.device.pages p
  pub free_pages : (p : ℕ) → is_kept t (block_of s.device p) ≡ false → t.device.pages p ≡ s.device.pages p
  -- such a block was filled in order, and unless it is bad or power went, it holds a node
  pub order : (b : ℕ) → is_kept t b ≡ true → is_kept s b ≡ false → IsFilledInOrder s.device b t.device
  pub filled : t.device.powered ≡ true → (b : ℕ) → is_kept t b ≡ true → is_kept s b ≡ false → set.contains t.bad b ≡ false → HoldsNode t.device b

-- kept blocks stay kept, the note gains each one that becomes kept and loses none, and each take leaves one free block less
pub record RingGoesOn (s t : Storage) : Type 0 where
  pub blocks : t.ring.blocks ≡ s.ring.blocks
  pub kept : (b : ℕ) → is_kept s b ≡ true → is_kept t b ≡ true
  pub noted : (b : ℕ) → is_kept t b ≡ true → is_kept s b ≡ false → set.contains t.ring.note b ≡ true
  pub note_stays : (b : ℕ) → set.contains s.ring.note b ≡ true → set.contains t.ring.note b ≡ true
  pub taken : free_count t.ring t.bad + t.ring.takes ≡ free_count s.ring s.bad + s.ring.takes

-- the bad list grows by exactly the failures, and by data blocks that are worn, which the ring has as used
pub record BadListGrows (s t : Storage) : Type 0 where
  pub stays_bad : (b : ℕ) → set.contains s.bad b ≡ true → set.contains t.bad b ≡ true
  pub bad_used : (b : ℕ) → set.contains t.bad b ≡ true → set.contains s.bad b ≡ false → is_kept t b ≡ true
  pub bad_data : (b : ℕ) → set.contains t.bad b ≡ true → set.contains s.bad b ≡ false → IsDataBlock s.ring.blocks b
  pub bad_worn : (b : ℕ) → set.contains t.bad b ≡ true → set.contains s.bad b ≡ false → t.device.worn b ≡ true
  pub failures : t.device.failures + set.len s.bad ≡ s.device.failures + set.len t.bad

-- what calls lead to, whatever they answer
pub record Evolved (s t : Storage) : Type 0 where
  pub device : DeviceGoesOn s.device t.device
  pub open device use {geometry, worn, failed_reads, cuts, was_on, stays_off}
  pub pages : PagesFill s t
  pub open pages use {kept_pages, anchor_pages, free_pages, order, filled}
  pub ring : RingGoesOn s t
  pub open ring use {blocks, kept, noted, note_stays, taken}
  pub bad : BadListGrows s t
  pub open bad use {stays_bad, bad_used, bad_data, bad_worn, failures}

-- between two states came reads alone
pub record IsUntouched (s t : Storage) : Type 0 where
  pub device : OnlyReads s.device t.device
  pub bad : t.bad ≡ s.bad
  pub ring : t.ring ≡ s.ring

-- a block that was not kept is kept, and its pages hold the node and nothing else; there is room in the bad list
pub record IsAdded (s : Storage) (bytes : List ℕ) (t : Storage) (b : ℕ) : Type 0 where
  pub fresh : is_kept s b ≡ false
  pub kept : is_kept t b ≡ true
  pub node : node_of t.device b ≡ Some bytes
  pub pages : HasPages t.device b bytes
  pub room : set.len t.bad < MAX_BAD_BLOCKS

-- block b was taken last: the first data block in ring order, after the one taken last before, that was not used then and
-- is not bad now. So each one that was passed over was used, or is in the bad list
pub record IsNextBlock (s t : Storage) (b : ℕ) : Type 0 where
  pub next : IsNext (is_busy s.ring t.bad) s.ring.blocks s.ring.last b
  pub last : t.ring.last ≡ b

-- no block was passed over but used ones and bad ones: whatever is bad beside, the next block is the same as before
abbrev pub PassesBad : Storage → Storage → Type 0
PassesBad s t =
    (bad : set.FinSet nat_cmp) (b : ℕ) → ((c : ℕ) → set.contains t.bad c ≡ true → set.contains bad c ≡ true)
    → IsNext (is_busy t.ring bad) t.ring.blocks t.ring.last b → IsNext (is_busy s.ring bad) s.ring.blocks s.ring.last b

-- a write adds the node, or is refused: no block is free, the bad list is at its limit, power is off, or memory is wanted
abbrev pub Adds : Storage → List ℕ → Storage → Result ℕ Fault → Type 0
Adds s bytes t (Ok b) = IsAdded s bytes t b
Adds s bytes t (Err FlashFull) = (free_count t.ring t.bad ≡ 0) × (set.len t.bad < MAX_BAD_BLOCKS)
Adds s bytes t (Err ReadOnly) = set.len t.bad ≡ MAX_BAD_BLOCKS
Adds s bytes t (Err PowerCut) = (t.device.powered ≡ false) × (set.len t.bad < MAX_BAD_BLOCKS)
Adds s bytes t (Err NoMemory) = set.len t.bad < MAX_BAD_BLOCKS
Adds s bytes t (Err _) = ⊥

-- the takes that no bad block paid for: of the block that was written, or in which power went
abbrev pub unpaid : Result ℕ Fault → ℕ
unpaid (Ok b) = 1
unpaid (Err PowerCut) = 1
unpaid (Err _) = 0

-- so many takes more than bad blocks came
abbrev pub Pays : Storage → Storage → ℕ → Type 0
Pays s t takes = t.ring.takes + set.len s.bad ≡ s.ring.takes + set.len t.bad + takes

-- each block that was taken was erased at most once, and each page that the bytes need programmed at most once in it
abbrev pub Spends : Storage → Storage → List ℕ → Type 0
Spends s t bytes =
    t.device.operations + s.ring.takes * (1 + pages_for s.device.geometry.page (length bytes))
    ≤ s.device.operations + t.ring.takes * (1 + pages_for s.device.geometry.page (length bytes))

-- an attempt adds the node, or its block is bad and others may be tried, or it is refused as a write is. Where memory is
-- wanted, nothing was done
abbrev pub Tries : Storage → List ℕ → Storage → Result (Option ℕ) Fault → Type 0
Tries s bytes t (Ok (Some b)) = IsAdded s bytes t b
Tries s bytes t (Ok None) = (free_count t.ring t.bad < free_count s.ring s.bad) × (set.len t.bad < MAX_BAD_BLOCKS)
Tries s bytes t (Err NoMemory) = t ≡ s
Tries s bytes t (Err fault) = Adds s bytes t (Err fault)

-- which block an attempt takes
abbrev pub TriesNext : Storage → Storage → Result (Option ℕ) Fault → Type 0
TriesNext s t (Ok (Some b)) = IsNextBlock s t b
TriesNext s t (Ok None) = PassesBad s t
TriesNext s t (Err fault) = Unit {0}

abbrev pub unpaid_try : Result (Option ℕ) Fault → ℕ
unpaid_try (Ok (Some b)) = 1
unpaid_try (Ok None) = 0
unpaid_try (Err fault) = unpaid (Err fault)

-- an attempt to write a node, and what it leaves
pub record IsAttempt (s : Storage) (bytes : List ℕ) (t : Storage) (result : Result (Option ℕ) Fault) : Type 0 where
  pub tries : Tries s bytes t result
  pub evolved : Evolved s t
  pub pays : Pays s t (unpaid_try result)
  pub next : TriesNext s t result
  pub operations : Spends s t bytes
