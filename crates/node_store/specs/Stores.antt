-- How the states of a store follow one another.
use Rattle.std.specs.Prelude.{◌≡◌, ◌+◌, ◌*◌, ◌<◌, ◌≤◌, false}
use Rattle.std.specs.FinSet as set
use Rattle.fs_types.specs.declared.limits.TheConstants.{MAX_BAD_BLOCKS}
use Rattle.fs_types.specs.declared.fault.Fault.{Fault}
use Rattle.fs_types.specs.declared.fault.Fault.TheVariants.{FlashFull, ReadOnly, ReadFailed, PowerCut, NoMemory}
use Rattle.flash_model.specs.Geometry.{IsGeometry}
use Rattle.flash_model.specs.Device.{Device}
use Rattle.block_ring.specs.Ring.{free_count}
use Rattle.node_store.specs.declared.storage.Storage.{Storage as Kept}
use Rattle.node_store.specs.declared.store.Store.{Store}
use Rattle.node_store.specs.Fitting.{Fits, StillFits}
use Rattle.node_store.specs.Storage.{Storage, storage, Evolved, IsUntouched}

-- a flash, with which blocks are bad and which are used
abbrev pub storage_on : Device → Kept → Storage
storage_on d s = storage d s.bad s.ring

module _ {F : Type 0} (device : F → Device) where
  -- the parts that it works on
  abbrev pub parts : Store F → Storage
  parts s = storage_on (device s.flash.now) s.storage.now

  -- what calls ask of the store, and leave
  pub record IsSoundStore (s : Store F) : Type 0 where
    pub lawful : IsGeometry (device s.flash.now).geometry
    pub ring_blocks : s.storage.now.ring.blocks ≡ (device s.flash.now).geometry.blocks
    pub fits : Fits (device s.flash.now) s.storage.now

  -- the second state came of the first by calls
  pub record Follows (s t : Store F) : Type 0 where
    pub same_flash : t.flash.ghost_name ≡ s.flash.ghost_name
    pub same_storage : t.storage.ghost_name ≡ s.storage.ghost_name
    pub fits : StillFits (device s.flash.now) s.storage.now (device t.flash.now) t.storage.now
    pub evolved : Evolved (parts s) (parts t)
    -- each take beyond those of bad blocks is paid for by a write, and without a write nothing changes
    pub more_writes : s.writes.n ≤ t.writes.n
    pub paid : t.storage.now.ring.takes + set.len s.storage.now.bad + s.writes.n ≤ s.storage.now.ring.takes + set.len t.storage.now.bad + t.writes.n
    pub untouched : t.writes.n ≡ s.writes.n → IsUntouched (parts s) (parts t)
    -- where the bad list is at its limit, nothing is written any more
    pub at_limit : set.len s.storage.now.bad ≡ MAX_BAD_BLOCKS → IsUntouched (parts s) (parts t)
    -- a read asks the device for each page of a block once at most
    pub asks : t.writes.n ≡ s.writes.n → (device t.flash.now).operations + s.reads.n * (device s.flash.now).geometry.pages ≤ (device s.flash.now).operations + t.reads.n * (device s.flash.now).geometry.pages

  -- no block is free, and those that were free were fewer than the writes asked and the blocks that went bad
  pub record IsStoreFull (s t : Store F) : Type 0 where
    pub none_free : free_count t.storage.now.ring t.storage.now.bad ≡ 0
    pub few_free : free_count s.storage.now.ring s.storage.now.bad + set.len s.storage.now.bad + s.writes.n < set.len t.storage.now.bad + t.writes.n
    pub room : set.len t.storage.now.bad < MAX_BAD_BLOCKS

  -- why a refusal may come between two states
  abbrev pub Reasons : Store F → Store F → Fault → Type 0
  Reasons s t FlashFull = IsStoreFull s t
  Reasons s t ReadOnly = set.len t.storage.now.bad ≡ MAX_BAD_BLOCKS
  Reasons s t ReadFailed = (device s.flash.now).failed_reads < (device t.flash.now).failed_reads
  Reasons s t PowerCut = (device t.flash.now).powered ≡ false
  Reasons s t NoMemory = Unit {0}
  Reasons s t _ = ⊥

  pub record Causes (s t : Store F) (fault : Fault) : Type 0 where
    pub reason : Reasons s t fault
