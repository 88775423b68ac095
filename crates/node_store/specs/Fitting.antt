-- When what nodes are kept with fits a flash.
use Rattle.std.specs.Prelude.{◌≡◌, ℕ, true, false, List, Option, Some, None, Result, Ok, Err, slice_get, vec_len}
use Rattle.std.specs.FinSet as set
use Rattle.fs_types.specs.declared.fault.Fault.{Fault}
use Rattle.flash_model.specs.Device.{Device}
use Rattle.node_store.specs.NodeCache.{node_in}
use Rattle.node_store.specs.Caching.{IsTruthful}
use Rattle.node_store.specs.declared.storage.Storage.{Storage}

-- there is room for a page, and what the cache lists the flash holds
pub record Fits (device : Device) (storage : Storage) : Type 0 where
  pub page_len : vec_len storage.page ≡ device.geometry.page
  pub truthful : IsTruthful device storage.cache

-- it fits the flash as it did before, and there is room for as many nodes
pub record StillFits (old : Device) (s : Storage) (new : Device) (t : Storage) : Type 0 where
  pub fits : Fits old s → Fits new t
  pub same_room : t.cache.room ≡ s.cache.room

-- the block that was written is listed first with its node
abbrev pub IsListedFirst : Storage → ℕ → List ℕ → Type 0
IsListedFirst t b bytes = slice_get t.cache.entries 0 ≡ Some (b, bytes)

-- no block that became used is listed
abbrev pub ListsNoneTried : Storage → Storage → Type 0
ListsNoneTried s t = (b : ℕ) → set.contains s.ring.used b ≡ false → set.contains t.ring.used b ≡ true → node_in t.cache b ≡ None

-- the same, but for an attempt that wrote its block
abbrev pub ListsNone : Storage → Storage → Result (Option ℕ) Fault → Type 0
ListsNone s t (Ok (Some b)) = Unit {0}
ListsNone s t (Ok None) = ListsNoneTried s t
ListsNone s t (Err fault) = ListsNoneTried s t
