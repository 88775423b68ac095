-- What is told of the space that a history keeps holds of the flash and the system from before the look.
use Rattle.std.proofs.Common.{◌≡◌, ◌∙◌, ℕ, ◌+◌, ◌-◌, ◌<◌, ◌≤◌, ◌||◌, Option, Result, Ok, Err, List, [], ◌∷◌, ◌++◌, length, count_by, sym, ap, subst}
use Rattle.std.specs.FinSet as set
use Rattle.std.specs.Ordering.{nat_cmp}
use Rattle.std.specs.Prelude.{not, IfOk, slice_index}
use Rattle.fs_types.specs.declared.call.Group.{Group}
use Rattle.fs_types.specs.declared.fault.Fault.{Fault}
use Rattle.fs_types.specs.declared.limits.TheConstants.{ANCHORS}
use Rattle.history_machine.specs.History.{Past, forgotten}
use Rattle.flash_model.specs.Device.{Device}
use Rattle.flash_model.specs.Geometry.{IsGeometry}
use Rattle.flash_model.specs.declared.geometry.Geometry.{Geometry}
use Rattle.bad_blocks.specs.Mode.{bad_anchors}
use Rattle.block_ring.specs.Ring.{data_blocks}
use Rattle.node_store.specs.NodePages.{node_of}
use Rattle.node_store.specs.ReadingLaws.{OnlyReads_nodes}
use Rattle.nodes.specs.Bodies.{Blocks}
use Rattle.nodes.specs.Reached.{Reached}
use Rattle.tree_counts.specs.Counts.{CountsAlone}
use Rattle.working_state.specs.Roots.{HasRoot, IsReached}
use Rattle.working_state.specs.declared.state.State.{State}
use Rattle.mounting.specs.Records.{roots_of, group_roots, working_roots}
use Rattle.system.specs.HistorySpace.{after_forget, FreeAfter, Looks}
use Rattle.system.specs.VersionSpace.{Frees, KeepsAlone, IsVersionSpace, IsHistorySpace}
use Rattle.system.specs.declared.systems.System.{System}
use Rattle.system.specs.declared.version_space.HistorySpace.{HistorySpace}
use Rattle.system.specs.declared.version_space.VersionSpace.{VersionSpace}

-- the same history reaches the same blocks, where the same nodes stand
reaches : (d e : Device) (s t : State) → node_of e ≡ node_of d → t.history ≡ s.history → t.group ≡ s.group → (count b : ℕ) → IsReached e (after_forget t count) b → IsReached d (after_forget s count) b
reaches d e s t nodes history group count b (root, has, there) = (
  root,
  subst (λ (x : Past ℕ × Option (Group ℕ)). HasRoot (record s { history = forgotten x.0 count; group = x.1 }) root) (λ i. (history i, group i)) has,
  subst (λ (f : Blocks). Reached f (root ∷ []) b) nodes there,
)

module _ (d e : Device) (s t : State) (nodes : node_of e ≡ node_of d) (geometry : e.geometry ≡ d.geometry) (history : t.history ≡ s.history) (group : t.group ≡ s.group) (bad : t.storage.bad ≡ s.storage.bad) where
  same_roots : working_roots t ≡ working_roots s
  same_roots = λ i. roots_of (history i) ++ group_roots (group i)

  alone_back : (place alone : ℕ) → KeepsAlone e t place alone → KeepsAlone d s place alone
  alone_back place alone = subst (λ (x : (Blocks × Geometry) × (set.FinSet nat_cmp × List ℕ)). CountsAlone x.0.0 x.0.1.blocks x.1.0 x.1.1 place alone) (λ i. ((nodes i, geometry i), (bad i, same_roots i)))

  free_back : (count free : ℕ) → FreeAfter e t count free → FreeAfter d s count free
  free_back count free is =
      let reached = is.is.reached in
      record {
        space = is.space;
        is = record {
          blocks = is.is.blocks ∙ ap (λ (g : Geometry). g.blocks - ANCHORS) geometry;
          bad = is.is.bad ∙ (λ i. count_by (set.contains (bad i)) (data_blocks (geometry i).blocks));
          reached = reached;
          are_reached = λ b. (
            λ has. reaches d e s t nodes history group count b ((is.is.are_reached b).0 has),
            λ there. (is.is.are_reached b).1 (reaches e d t s (sym nodes) (sym history) (sym group) count b there),
          );
          free = is.is.free ∙ (λ i. count_by (λ b. not (set.contains (bad i) b || set.contains reached b)) (data_blocks (geometry i).blocks));
          anchors = is.is.anchors ∙ ap (λ (x : set.FinSet nat_cmp). ANCHORS - bad_anchors x) bad;
        };
        free_is = is.free_is;
      }

  frees_back : (count frees : ℕ) → Frees e t count frees → Frees d s count frees
  frees_back count frees is = record { free = is.free; now = free_back 0 is.free is.now; after = free_back count (is.free + frees) is.after }

  version_back : (place : ℕ) (version : VersionSpace) → IsVersionSpace e t place version → IsVersionSpace d s place version
  version_back place version is = record {
    before = λ low.
        let x = is.before (subst (λ (h : Past ℕ). place < h.cursor) (sym history) low) in
        (x.0, x.1, frees_back (place + 1) x.0 x.2);
    from = λ high. is.from (subst (λ (h : Past ℕ). h.cursor ≤ place) (sym history) high);
    alone = alone_back place version.alone is.alone;
  }

  space_back : (space : HistorySpace) → IsHistorySpace e t space → IsHistorySpace d s space
  space_back space is = record {
    free = is.free;
    now = free_back 0 is.free is.now;
    all = is.all ∙ ap (λ (h : Past ℕ). length h.versions) history;
    each = λ place version at. version_back place version (is.each place version at);
    all_checkpoints = is.all_checkpoints ∙ ap (λ (h : Past ℕ). length h.checkpoints) history;
    each_checkpoint = λ k within.
        subst (λ (h : Past ℕ). KeepsAlone d s (length h.versions + k) (slice_index space.checkpoints k)) history
        (alone_back (length t.history.versions + k) (slice_index space.checkpoints k) (is.each_checkpoint k within));
  }

-- after a look
pub told_before : (d : Device) (m : System) (result : Result HistorySpace Fault) (e : Device) (n : System) → IsGeometry d.geometry → Looks d m result e n → IfOk result (IsHistorySpace e n.state)
    → IfOk result (IsHistorySpace d m.state)
told_before d m result e n lawful looks = by result
  where
    by : (r : Result HistorySpace Fault) → IfOk r (IsHistorySpace e n.state) → IfOk r (IsHistorySpace d m.state)
    by (Ok space) is = space_back d e m.state n.state (OnlyReads_nodes d e lawful looks.stays.reads) looks.stays.reads.geometry looks.stays.history looks.stays.group looks.stays.bad space is
    by (Err fault) is = tt
