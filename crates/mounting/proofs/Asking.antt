-- What a marking and a verification ask of the device.
use Rattle.std.proofs.Common.{◌≡◌, ℕ, ◌+◌, ◌*◌, ◌≤◌, List, [], ◌++◌, length, ◌∙◌, arith}
use Rattle.std.proofs.Math.Nat.{add-mul, mul-le-mul_right}
use Rattle.flash_model.specs.Device.{Device}
use Rattle.flash_model.specs.Geometry.{block_bytes}
use Rattle.node_store.specs.NodePages.{node_of}
use Rattle.node_store.specs.Stores.{Follows}
use Rattle.node_store.specs.declared.store.Store.{Store}
use Rattle.nodes.specs.Bodies.{Blocks}
use Rattle.reclaim.specs.Passes.{AreReached}
use Rattle.reclaim.specs.Verified.{HasCost, all_pages}
use Rattle.mounting.specs.Costs.{ReadsEach, AsksEach, AsksToVerify}

pub none_reached : (f : Blocks) (roots : List ℕ) → AreReached f roots []
none_reached f roots = record { distinct = λ i j less below same. omega arith; reached = λ b has. absurd (omega (arith, has.1)) }

pub asks_none : (d : Device) (roots : List ℕ) → AsksEach d roots d
asks_none d roots = record { blocks = []; are = none_reached (node_of d) roots; most = omega arith }

pub verifies_none : (d : Device) (roots : List ℕ) → AsksToVerify d roots d
verifies_none d roots = record { blocks = []; are = none_reached (node_of d) roots; most = omega arith }

-- so many reads, and the pages of a block for each of them
pub paged : (before after reads more count pages : ℕ) → after + reads * pages ≤ before + more * pages → more ≤ reads + count → after ≤ before + count * pages
paged before after reads more count pages asks most =
    let all : more * pages ≤ (reads + count) * pages = mul-le-mul_right pages most in
    let parts : (reads + count) * pages ≡ reads * pages + count * pages = add-mul reads count pages in
    omega (arith, asks, all, parts)

module _ {F : Type 0} (device : F → Device) (s t : Store F) (roots : List ℕ) (came : Follows device s t) (same : t.writes.n ≡ s.writes.n) where
  pub asks_each : ReadsEach (node_of (device s.flash.now)) roots s.reads.n t.reads.n → AsksEach (device s.flash.now) roots (device t.flash.now)
  asks_each reads = record {
    blocks = reads.blocks;
    are = reads.are;
    most = paged (device s.flash.now).operations (device t.flash.now).operations s.reads.n t.reads.n (length reads.blocks) (device s.flash.now).geometry.pages (came.asks same) reads.most;
  }

-- the cost of a verification, in pages
pub asks_to_verify : (old new : Device) (roots : List ℕ) → HasCost (all_pages old.geometry.page (block_bytes old.geometry)) (node_of old) roots old.operations new.operations → AsksToVerify old roots new
asks_to_verify old new roots cost = record { blocks = cost.blocks; are = cost.are; most = cost.most }
