-- Adding a node to a flash: what it wants, and what it leaves.
use Rattle.std.specs.Prelude.{◌≡◌, ℕ, List, Result, IfOk, MatchResult}
use Rattle.std.specs.FinSet as set
use Rattle.fs_types.specs.declared.limits.TheConstants.{MAX_BAD_BLOCKS}
use Rattle.fs_types.specs.declared.fault.Fault.{Fault}
use Rattle.flash_model.specs.Device.{Device}
use Rattle.flash_model.specs.Geometry.{IsGeometry, block_bytes}
use Rattle.node_format.specs.Headers.{IsNode}
use Rattle.node_store.specs.declared.storage.Storage.{Storage as Kept}
use Rattle.node_store.specs.Fitting.{Fits, StillFits, IsListedFirst, ListsNoneTried}
use Rattle.node_store.specs.Storage.{Storage, Evolved, IsUntouched, IsNextBlock, Adds, Pays, Spends, unpaid}

-- bytes may be written to a flash as a node: its sizes are lawful, the ring is one of its blocks, and what is kept fits it
pub record IsWritable (d : Device) (s : Kept) (bytes : List ℕ) : Type 0 where
  pub lawful : IsGeometry d.geometry
  pub ring_blocks : s.ring.blocks ≡ d.geometry.blocks
  pub fits : Fits d s
  pub node : IsNode (block_bytes d.geometry) bytes

-- a write adds the node or is refused, and what it takes and asks for. Where the bad list is at its limit, nothing is done
pub record WritesNode (s : Storage) (bytes : List ℕ) (t : Storage) (result : Result ℕ Fault) : Type 0 where
  pub adds : Adds s bytes t result
  pub evolved : Evolved s t
  pub pays : Pays s t (unpaid result)
  pub next : IfOk result (λ block. IsNextBlock s t block)
  pub operations : Spends s t bytes
  pub at_limit : set.len s.bad ≡ MAX_BAD_BLOCKS → IsUntouched s t

-- the written block is listed first in the cache with its node; after a refusal no block that was tried is listed
pub record ListsWritten (d : Device) (s : Kept) (bytes : List ℕ) (e : Device) (t : Kept) (result : Result ℕ Fault) : Type 0 where
  pub fits : StillFits d s e t
  pub lists : MatchResult result (λ block. IsListedFirst t block bytes) (λ _. ListsNoneTried s t)
