-- Attempts to write a node, one after the other.
use Rattle.std.proofs.Common.{◌≡◌, ℕ, ◌+◌, ◌*◌, ◌<◌, ◌≤◌, List, Err, length, sym, subst, arith}
use Rattle.std.specs.FinSet as set
use Rattle.fs_types.specs.declared.limits.TheConstants.{MAX_BAD_BLOCKS}
use Rattle.fs_types.specs.declared.fault.Fault.{Fault}
use Rattle.fs_types.specs.declared.fault.Fault.TheVariants.{FlashFull, ReadOnly, PowerCut, NoMemory}
use Rattle.flash_model.specs.declared.geometry.Geometry.{Geometry}
use Rattle.nodes.specs.PageCounts.{pages_for}
use Rattle.node_store.specs.Storage.{Storage, Evolved, IsAdded, Adds, Tries, Pays, Spends}
use Rattle.node_store.specs.StorageLaws.{Evolved_fresh}

-- an attempt that is refused refuses the write
pub refused_adds : (s m t : Storage) (bytes : List ℕ) (fault : Fault) → set.len m.bad < MAX_BAD_BLOCKS → Tries m bytes t (Err fault) → Adds s bytes t (Err fault)
refused_adds s m t bytes FlashFull room tried = tried
refused_adds s m t bytes ReadOnly room tried = tried
refused_adds s m t bytes PowerCut room tried = tried
refused_adds s m t bytes NoMemory room tried = subst (λ (u : Storage). set.len u.bad < MAX_BAD_BLOCKS) (sym tried) room
refused_adds s m t bytes _ room tried = absurd tried

pub added_on : (s m t : Storage) (bytes : List ℕ) (b : ℕ) → Evolved s m → IsAdded m bytes t b → IsAdded s bytes t b
added_on s m t bytes b evolved added = record {
  fresh = Evolved_fresh s m b evolved added.fresh;
  kept = added.kept;
  node = added.node;
  pages = added.pages;
  room = added.room;
}

pub Pays_on : (s m t : Storage) (takes : ℕ) → Pays s m 0 → Pays m t takes → Pays s t takes
Pays_on s m t takes first next = omega arith

spent : (each a b c k l m : ℕ) → b + k * each ≤ a + l * each → c + l * each ≤ b + m * each → c + k * each ≤ a + m * each
spent each a b c k l m first next = omega arith

pub Spends_on : (s m t : Storage) (bytes : List ℕ) → Evolved s m → Spends s m bytes → Spends m t bytes → Spends s t bytes
Spends_on s m t bytes evolved first next =
    spent (1 + pages_for s.device.geometry.page (length bytes)) s.device.operations m.device.operations t.device.operations s.ring.takes m.ring.takes t.ring.takes first
    (subst (λ (g : Geometry). t.device.operations + m.ring.takes * (1 + pages_for g.page (length bytes)) ≤ m.device.operations + t.ring.takes * (1 + pages_for g.page (length bytes))) evolved.geometry next)

-- where the list has room it is not at its limit
pub no_limit : {A : Type 0} → (n : ℕ) → n < MAX_BAD_BLOCKS → n ≡ MAX_BAD_BLOCKS → A
no_limit n room full = absurd (omega arith)
