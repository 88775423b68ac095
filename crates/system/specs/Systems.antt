-- What holds of a flash and the system that is mounted on it between calls.
use Rattle.std.specs.Prelude.{◌≡◌, ◌≢◌, ◌⊎◌, ℕ, ◌/◌, ◌<◌, true, false, is_some, Some, None, IfSome, Contains}
use Rattle.std.specs.FinSet as set
use Rattle.std.specs.Ordering.{nat_cmp}
use Rattle.flash_model.specs.Device.{Device}
use Rattle.flash_model.specs.Geometry.{block_bytes}
use Rattle.node_store.specs.NodePages.{node_of}
use Rattle.nodes.specs.Reached.{Reached}
use Rattle.reclaim.specs.Kinds.{Knows}
use Rattle.reclaim.specs.Passes.{Pass}
use Rattle.record_format.specs.declared.record.Record.{Record}
use Rattle.anchors.specs.declared.anchors.Anchors.{Anchors}
use Rattle.anchors.specs.declared.best.Found.{Found}
use Rattle.anchors.specs.Parts.{parts_on, newest_at}
use Rattle.anchors.specs.Newest.{remembered}
use Rattle.anchors.specs.Reading.{IsEnd}
use Rattle.anchors.specs.Remembering.{IsErasedBeside}
use Rattle.working_state.specs.Mounted.{IsStanding, IsMounted}
use Rattle.working_state.specs.OpenBodies.{KnowsBodies}
use Rattle.working_state.specs.Roots.{IsReached}
use Rattle.mounting.specs.Records.{history_of, roots_of}
use Rattle.mounting.specs.Saved.{saved_on}
use Rattle.system.specs.declared.systems.System.{System}

-- the place of the newest record is remembered, and, while its anchor is not bad, where that ends; and the anchor that
-- was erased ahead, if one was
pub record IsKnown (d : Device) (bad : set.FinSet nat_cmp) (anchors : Anchors) : Type 0 where
  pub some : is_some (remembered anchors) ≡ true
  pub place : newest_at d.geometry (parts_on d.geometry d.pages) ≡ remembered anchors
  pub end : (found : Found) → remembered anchors ≡ Some found → set.contains bad (found.page / d.geometry.pages) ≡ false
      → IsEnd d.geometry d.pages (found.page / d.geometry.pages) d.geometry.pages anchors.end
  pub prepared : (found : Found) → remembered anchors ≡ Some found → IsErasedBeside d bad anchors found

-- a version or a checkpoint reaches this block, of the working history or of the newest record, or the group that
-- is open
abbrev pub MustStay : Device → System → ℕ → Type 0
MustStay d m block =
    IsReached d m.state block
    ⊎ ((r : Record) × (saved_on d ≡ Some r) × Reached (node_of d) (roots_of (history_of r)) block)

-- a marking goes on beside the calls. What its roots reach is used and has its nodes; and what must stay now they
-- reach, or it was taken since the marking began. Its roots have trees, and it knows which of the marked blocks are
-- those of bodies
pub record IsRunning (d : Device) (m : System) (p : Pass) : Type 0 where
  pub blocks : p.blocks ≡ d.geometry.blocks
  pub known : Knows (block_bytes d.geometry) (node_of d) p
  pub held : (b : ℕ) → Reached (node_of d) p.roots b → set.contains m.state.storage.ring.used b ≡ true
  pub nodes : (b : ℕ) → Reached (node_of d) p.roots b → node_of d b ≢ None
  pub taken : (b : ℕ) → MustStay d m b → (Reached (node_of d) p.roots b → ⊥)
      → set.contains m.state.storage.ring.note b ≡ true

-- the working state is mounted, what is known of open files is what look-ups of their paths tell, and the prepared
-- blocks are blocks of this flash. Until a call answered that the power is off, there is a newest record, its place and its roots are known, all its versions and
-- checkpoints stand, and a marking that was begun goes on. Each bad block that is not used is a block of the flash,
-- as used ones are
pub record IsSystem (d : Device) (m : System) : Type 0 where
  pub mounted : IsMounted d m.state
  pub bodies : KnowsBodies d m.state m.bodies
  pub prepared : m.prepared.blocks ≡ m.state.storage.ring.blocks
  pub saved : m.state.is_off ≡ false → is_some (saved_on d) ≡ true
  pub stands : m.state.is_off ≡ false → (r : Record) → saved_on d ≡ Some r → (root : ℕ)
      → Contains (roots_of (history_of r)) root → IsStanding d m.state.storage.ring root
  pub roots : m.state.is_off ≡ false → (r : Record) → saved_on d ≡ Some r
      → m.record_roots.items ≡ roots_of (history_of r)
  pub passing : m.state.is_off ≡ false → IfSome m.pass (IsRunning d m)
  pub known : m.state.is_off ≡ false → IsKnown d m.state.storage.bad m.anchors
  pub listed : (b : ℕ) → set.contains m.state.storage.bad b ≡ true → set.contains m.state.storage.ring.used b ≡ false
      → b < d.geometry.blocks
