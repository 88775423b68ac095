-- A part of the node in a block, and what reading it leaves.
use Rattle.std.specs.Prelude.{◌≡◌, ◌≢◌, ℕ, ◌<◌, false, List, Option, Some, None, Result, Ok}
use Rattle.fs_types.specs.declared.fault.Fault.{Fault}
use Rattle.fs_types.specs.declared.fault.Fault.TheVariants.{ReadFailed, PowerCut, NoMemory, Damaged}
use Rattle.flash_model.specs.Device.{Device}
use Rattle.node_store.specs.NodeCache.{node_in, with_first}
use Rattle.node_store.specs.Caching.{Fetches}
use Rattle.nodes.specs.Parts.{LacksPart}
use Rattle.node_store.specs.declared.storage.Storage.{Storage}

-- why so many bytes of a node from an offset on were not brought
abbrev pub RefusesPart : Device → Device → Option (List ℕ) → ℕ → ℕ → Fault → Type 0
RefusesPart old new there offset count ReadFailed = old.failed_reads < new.failed_reads
RefusesPart old new there offset count PowerCut = new.powered ≡ false
RefusesPart old new there offset count NoMemory = Unit {0}
RefusesPart old new there offset count Damaged = LacksPart there offset count
RefusesPart old new there offset count _ = ⊥

-- a part of block b is read: a listed node goes first, and the device is not asked; a block of which a part was read last
-- is read whole and listed; of another one what is listed stays, and it is then the one of which a part was read last
pub record ReadsPart (old : Device) (s : Storage) (b : ℕ) (new : Device) (t : Storage) (result : Result (Unit {0}) Fault) : Type 0 where
  pub listed : (bytes : List ℕ) → node_in s.cache b ≡ Some bytes
      → (result ≡ Ok tt) × (new ≡ old) × (t.cache ≡ with_first s.cache b bytes) × (t.partly ≡ s.partly)
  pub second : node_in s.cache b ≡ None → s.partly ≡ b → Fetches old s.cache b new t.cache result × (t.partly ≡ 0)
  pub first : node_in s.cache b ≡ None → s.partly ≢ b → (t.cache ≡ s.cache) × (t.partly ≡ b)
