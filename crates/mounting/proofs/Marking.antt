-- What the blocks that roots reach are, as a marking finds them.
use Rattle.std.proofs.Common.{◌≡◌, ◌≢◌, inl, inr, ℕ, ◌-◌, ◌<◌, ◌≤◌, true, false, ◌||◌, not, None, List, [], ◌∷◌, refl, sym, subst, ◌∙◌, arith}
use Rattle.std.proofs.lemmas.Bool.{cases_lt, true≢false}
use Rattle.std.specs.Prelude.{◌↔◌, ◌⊎◌, Contains}
use Rattle.fs_types.specs.declared.fault.Fault.{Fault}
use Rattle.fs_types.specs.declared.fault.Fault.TheVariants.{ReadFailed, PowerCut, NoMemory, Damaged}
use Rattle.fs_types.specs.declared.limits.TheConstants.{ANCHORS}
use Rattle.flash_model.specs.Device.{Device}
use Rattle.flash_model.specs.Geometry.{block_bytes}
use Rattle.block_ring.specs.Ring.{IsDataBlock}
use Rattle.node_format.specs.Headers.{body_header}
use Rattle.node_store.specs.NodeLaws.{node_of-anchor, node_of-beyond}
use Rattle.node_store.specs.NodePages.{node_of}
use Rattle.node_store.specs.Faults.{IsReadFault}
use Rattle.node_store.specs.Stores.{Causes}
use Rattle.node_store.specs.declared.store.Store.{Store}
use Rattle.nodes.specs.Bodies.{Blocks}
use Rattle.nodes.specs.Reached.{Reached, IsFirst}
use Rattle.reclaim.specs.Passes.{Pass, AreReached, HasRead}
use Rattle.reclaim.specs.Verified.{AreRoots}
use Rattle.reclaim.proofs.Soundness.{trees_hold_nodes}
use Rattle.working_state.specs.Seen.{seen_of}
use Rattle.working_state.specs.Worked.{ReadCause}
use Rattle.mounting.specs.Costs.{ReadsEach}

-- a root with a tree is a data block
pub roots_hold_data : (d : Device) (roots : List ℕ) → AreRoots (block_bytes d.geometry) (node_of d) roots → (b : ℕ) → Contains roots b → IsDataBlock d.geometry.blocks b
roots_hold_data d roots trees b has =
    let some = trees_hold_nodes (block_bytes d.geometry - body_header) (node_of d) roots trees b (IsFirst has) in
    (low (cases_lt b ANCHORS) some, high (cases_lt b d.geometry.blocks) some)
  where
    low : (b < ANCHORS) ⊎ (ANCHORS ≤ b) → node_of d b ≢ None → ANCHORS ≤ b
    low (inl below) some = absurd (some (node_of-anchor d b below))
    low (inr is) some = is

    high : (b < d.geometry.blocks) ⊎ (d.geometry.blocks ≤ b) → node_of d b ≢ None → b < d.geometry.blocks
    high (inl is) some = is
    high (inr beyond) some = absurd (some (node_of-beyond d b beyond))

pub reads_none : (f : Blocks) (roots : List ℕ) (before after : ℕ) → after ≡ before → ReadsEach f roots before after
reads_none f roots before after same = record {
  blocks = [];
  are = record { distinct = λ i j less below same. omega arith; reached = λ b has. absurd (omega (arith, has.1)) };
  most = omega arith;
}

pub reads_each : (f : Blocks) (roots : List ℕ) (p : Pass) (before after : ℕ) → p.roots ≡ roots → p.next ≡ 0 → HasRead f p before after → ReadsEach f roots before after
reads_each f roots p before after same none read = record {
  blocks = read.seen;
  are = subst (λ (l : List ℕ). AreReached f l read.seen) same read.are;
  most = let most = read.most in omega arith;
}

-- why the blocks that roots reach are not marked
pub marking_why : {F : Type 0} (device : F → Device) (s t : Store F) (roots : List ℕ) (fault : Fault) → AreRoots (block_bytes (device s.flash.now).geometry) (node_of (device s.flash.now)) roots → IsReadFault fault
    → (fault ≡ Damaged → (b : ℕ) × Reached (node_of (device s.flash.now)) roots b × (node_of (device s.flash.now) b ≡ None)) → (fault ≢ Damaged → Causes device s t fault)
    → ReadCause (seen_of (device s.flash.now) s.storage.now) fault (seen_of (device t.flash.now) t.storage.now)
marking_why device s t roots ReadFailed trees is damaged why = (why (λ e. cc)).reason
marking_why device s t roots PowerCut trees is damaged why = (why (λ e. cc)).reason
marking_why device s t roots NoMemory trees is damaged why = tt
marking_why device s t roots Damaged trees is damaged why =
    let (b, reached, none) = damaged refl in
    absurd (trees_hold_nodes (block_bytes (device s.flash.now).geometry - body_header) (node_of (device s.flash.now)) roots trees b reached none)
marking_why device s t roots _ trees is damaged why = absurd (true≢false (sym is))
