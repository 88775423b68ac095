-- What it leaves of a flash to prepare blocks: the free ones that are taken next are erased, each once until it is taken.
use Rattle.std.specs.Prelude.{◌≡◌, ◌⊎◌, ℕ, zero, suc, ◌+◌, ◌≤◌, Bool, true, false, not, take, find, filter, List, Option, Some, None, Result, Ok, Err, OnOk, OnErr}
use Rattle.std.specs.FinSet as set
use Rattle.fs_types.specs.declared.fault.Fault.{Fault}
use Rattle.flash_model.specs.Device.{Device}
use Rattle.block_ring.specs.BlockSet.{BlockSet}
use Rattle.block_ring.specs.Ring.{ring_order}
use Rattle.node_store.specs.NodeCache.{without}
use Rattle.node_store.specs.declared.storage.Storage.{Storage}
use Rattle.system.specs.declared.preparations.TheConstants.{BLOCKS_AHEAD}
use Rattle.system.specs.CleaningRounds.{CleanCause, ErasesBlock, ErasesFree, IsBlank, is_free}

-- the free data blocks that are taken next: the first ones in ring order after the last one taken
abbrev pub next_blocks : Storage → List ℕ
next_blocks s = take BLOCKS_AHEAD (filter (is_free s) (ring_order s.ring.blocks s.ring.last))

-- the first of these that is not prepared; none where all are
abbrev pub next_unprepared : Storage → BlockSet → Option ℕ
next_unprepared s prepared = find (λ b. not (set.contains prepared.members b)) (next_blocks s)

-- a flash, what nodes are kept with on it, and which blocks are prepared
pub record Preparation : Type 0 where
  pub device : Device
  pub storage : Storage
  pub prepared : BlockSet

abbrev pub preparation : Device → Storage → BlockSet → Preparation
preparation d s prepared = record { device = d; storage = s; prepared = prepared }

-- the next block that is not prepared was erased, blank or not, and is prepared then, or it is bad
pub record PreparesNext (x : Preparation) (result : Result (Unit {0}) Fault) (y : Preparation) : Type 0 where
  pub block : ℕ
  pub next : next_unprepared x.storage x.prepared ≡ Some block
  pub erases : ErasesBlock x.device x.storage.bad block y.device y.storage.bad
  pub storage : y.storage ≡ record x.storage { bad = y.storage.bad; cache = without x.storage.cache block }
  pub clean : OnOk result ((set.contains y.storage.bad block ≡ true) ⊎ IsBlank y.device block)
  pub prepared : OnOk result (y.prepared ≡ record x.prepared { members = set.insert x.prepared.members block })
  pub refused : OnErr result (y.prepared ≡ x.prepared)

-- so many blocks were, one after the other
abbrev pub Prepares : ℕ → Preparation → Preparation → Type 0
Prepares zero x y = y ≡ x
Prepares (suc n) x y = (z : Preparation) × Prepares n x z × PreparesNext z (Ok tt) y

-- how it ends, after so many erases: all of the blocks that are taken next are prepared; or one is not, and as many were erased
-- as may be; or the last erase was refused
abbrev pub PrepareEnds : ℕ → Preparation → ℕ → Result Bool Fault → Preparation → Type 0
PrepareEnds n x budget (Ok true) y = Prepares n x y × (next_unprepared y.storage y.prepared ≡ None)
PrepareEnds n x budget (Ok false) y = Prepares n x y × (n ≡ budget) × (block : ℕ) × (next_unprepared y.storage y.prepared ≡ Some block)
PrepareEnds n x budget (Err fault) y =
    (before : ℕ) × (n ≡ suc before) × (z : Preparation) × Prepares before x z × PreparesNext z (Err fault) y × CleanCause y.device y.storage.bad fault

-- blocks that are taken next were prepared, so many at most. Each erase is one operation at most; and where all are prepared
-- nothing is asked of the flash, and nothing changes
pub record PreparesBlocks (x : Preparation) (budget : ℕ) (result : Result Bool Fault) (y : Preparation) : Type 0 where
  pub erases : ErasesFree x.device x.storage y.device y.storage
  pub blocks : y.prepared.blocks ≡ x.prepared.blocks
  pub count : ℕ
  pub few : count ≤ budget
  pub asks : y.device.operations ≤ x.device.operations + count
  pub ends : PrepareEnds count x budget result y
  pub idle : next_unprepared x.storage x.prepared ≡ None → (result ≡ Ok true) × (y ≡ x)
