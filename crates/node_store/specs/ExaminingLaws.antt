-- How many pages the reads of a store ask.
use Rattle.std.specs.Prelude.{◌≡◌, ℕ, suc, ◌+◌, ◌*◌, ◌<◌, ◌≤◌}
use Rattle.std.proofs.Common.{sym, subst, arith}
use Rattle.std.proofs.lemmas.Grind.{div_ceil_times}
use Rattle.std.proofs.Math.Nat.{lt_of_mul-lt-mul_right}
use Rattle.flash_model.specs.declared.geometry.Geometry.{Geometry}
use Rattle.flash_model.specs.Geometry.{IsGeometry, block_bytes}
use Rattle.flash_model.specs.Device.{Device}
use Rattle.nodes.specs.PageCounts.{pages_for}
use Rattle.node_store.specs.NodeLaws.{lawful_has_room, pages_for-most}
use Rattle.node_store.specs.Stores.{IsSoundStore, Follows}
use Rattle.node_store.specs.declared.store.Store.{Store}

-- as many bytes as a block has fill its pages
pub block_pages : (g : Geometry) → IsGeometry g → pages_for g.page (block_bytes g) ≡ g.pages
block_pages g lawful =
    let room = lawful_has_room g lawful in
    let times = div_ceil_times (block_bytes g) g.page (omega arith) in
    let most = pages_for-most g.page g.pages (block_bytes g) (omega arith) (omega arith) in
    let least : g.pages * g.page < suc (pages_for g.page (block_bytes g)) * g.page = omega (arith, times.0, room.page) in
    let enough : g.pages < suc (pages_for g.page (block_bytes g)) = lt_of_mul-lt-mul_right g.page least in
    omega arith

module _ {F : Type 0} (device : F → Device) where
  -- where nothing is written, a read asks no more pages than a block has
  pub Asks_each : (s t : Store F) → IsSoundStore device s → Follows device s t → t.writes.n ≡ s.writes.n
      → (device t.flash.now).operations + s.reads.n * pages_for (device s.flash.now).geometry.page (block_bytes (device s.flash.now).geometry)
      ≤ (device s.flash.now).operations + t.reads.n * pages_for (device s.flash.now).geometry.page (block_bytes (device s.flash.now).geometry)
  Asks_each s t sound f same =
      subst (λ (p : ℕ). (device t.flash.now).operations + s.reads.n * p ≤ (device s.flash.now).operations + t.reads.n * p)
      (sym (block_pages (device s.flash.now).geometry sound.lawful)) (f.asks same)
