-- The beginning of the node in a block, and what bringing it leaves.
use Rattle.std.specs.Prelude.{◌≡◌, ℕ, ◌*◌, ◌&&◌, nat_le, nat_lt, if◌then◌else◌, Bool, true, false, List, Option, Some, None, Result, Ok}
use Rattle.fs_types.specs.declared.fault.Fault.{Fault}
use Rattle.fs_types.specs.declared.limits.TheConstants.{ANCHORS}
use Rattle.flash_model.specs.Device.{Device}
use Rattle.node_store.specs.NodeCache.{NodeCache, node_in, with_first, first_bytes}
use Rattle.node_store.specs.NodePages.{joined}
use Rattle.node_store.specs.Reading.{Brings}
use Rattle.node_store.specs.declared.storage.Storage.{Storage}

-- the bytes of the first page of a data block, none unless it has data
abbrev pub first_page : Device → ℕ → Option (List ℕ)
first_page d b = if nat_le ANCHORS b && nat_lt b d.geometry.blocks then joined d.pages (b * d.geometry.pages) 1 else None

-- the front stands in the page, or is the node that is listed first
abbrev pub front_in : Bool → Storage → List ℕ
front_in true s = s.page.items
front_in false s = first_bytes s.cache.entries

-- the front of block b is brought through the cache: a listed node is answered whole and without the device, and goes
-- first; of another block the first page is read, and what is listed stays
pub record Fronts (old : Device) (cache : NodeCache) (b : ℕ) (new : Device) (after : NodeCache) (front : List ℕ) (result : Result (Unit {0}) Fault) : Type 0 where
  pub listed : (bytes : List ℕ) → node_in cache b ≡ Some bytes
      → (result ≡ Ok tt) × (front ≡ bytes) × (new ≡ old) × (after ≡ with_first cache b bytes)
  pub unlisted : node_in cache b ≡ None → (Brings old new (first_page old b) front result) × (after ≡ cache)
