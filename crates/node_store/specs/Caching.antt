-- What a cache of nodes may hold, and what a read through it leaves.
use Rattle.std.specs.Prelude.{◌≡◌, ℕ, List, Option, Some, Result, Ok, Err}
use Rattle.std.specs.Result.{OnOk, OnErr}
use Rattle.fs_types.specs.declared.fault.Fault.{Fault}
use Rattle.fs_types.specs.declared.fault.Fault.TheVariants.{NoMemory}
use Rattle.flash_model.specs.Device.{Device}
use Rattle.node_store.specs.NodeCache.{NodeCache, node_in, with_first, first_bytes}
use Rattle.node_store.specs.NodePages.{node_of}
use Rattle.node_store.specs.Reading.{Brings}

-- each listed block holds the node that it is listed with
pub record IsTruthful (device : Device) (cache : NodeCache) : Type 0 where
  pub each : (b : ℕ) (bytes : List ℕ) → node_in cache b ≡ Some bytes → node_of device b ≡ Some bytes

-- reads brought what there is, or were refused, for want of memory too
abbrev pub BringsOrWants : Device → Device → Option (List ℕ) → List ℕ → Result (Unit {0}) Fault → Type 0
BringsOrWants old new there shown (Ok u) = Brings old new there shown (Ok u)
BringsOrWants old new there shown (Err NoMemory) = Unit {0}
BringsOrWants old new there shown (Err fault) = Brings old new there shown (Err fault)

-- block b is read through the cache: a listed one is answered without the device, and after Ok it is listed first with
-- its node, then the others as they were, less the last where there is no room
pub record Fetches (old : Device) (cache : NodeCache) (b : ℕ) (new : Device) (after : NodeCache) (result : Result (Unit {0}) Fault) : Type 0 where
  pub brings : BringsOrWants old new (node_of old b) (first_bytes after.entries) result
  pub listed : (bytes : List ℕ) → node_in cache b ≡ Some bytes → (result ≡ Ok tt) × (new ≡ old)
  pub first : OnOk result (after ≡ with_first cache b (first_bytes after.entries))
  pub refused : OnErr result (after ≡ cache)
