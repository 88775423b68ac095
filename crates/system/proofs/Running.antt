-- A marking goes on beside the calls.
use Rattle.std.proofs.Common.{◌≡◌, ◌⊎◌, inl, inr, ℕ, true, false, Option, Some, None, Result, sym, ap, subst, ◌∙◌}
use Rattle.std.specs.Prelude.{IfSome}
use Rattle.std.specs.FinSet as set
use Rattle.fs_types.specs.declared.fault.Fault.{Fault}
use Rattle.history_machine.specs.History.{Past}
use Rattle.flash_model.specs.declared.geometry.Geometry.{Geometry}
use Rattle.flash_model.specs.Device.{Device}
use Rattle.flash_model.specs.Geometry.{block_bytes}
use Rattle.node_store.specs.NodePages.{node_of}
use Rattle.nodes.specs.Bodies.{Blocks}
use Rattle.nodes.specs.Reached.{Reached, Agrees}
use Rattle.reclaim.specs.Kinds.{IsKnownMarking}
use Rattle.reclaim.specs.Passes.{Pass, IsPass}
use Rattle.reclaim.specs.Verified.{AreRoots}
use Rattle.reclaim.proofs.KnownPasses.{known_stays}
use Rattle.reclaim.proofs.Marking.{reached_same, reached_back}
use Rattle.record_format.specs.declared.record.Record.{Record}
use Rattle.working_state.specs.Roots.{IsReached}
use Rattle.working_state.specs.declared.state.State.{State}
use Rattle.system.specs.Commits.{Saves}
use Rattle.mounting.specs.Records.{history_of, roots_of, working_roots}
use Rattle.system.specs.Systems.{IsSystem, IsRunning, MustStay}
use Rattle.system.specs.declared.systems.System.{System}
use Rattle.system.proofs.AfterCommits.{SavedAfter, same, saved_after}
use Rattle.system.proofs.Measured.{listed_reached, of_history}
use Rattle.system.proofs.Syncs.{reached_from}
use Rattle.mounting.proofs.SameNodes.{node_is, same_nodes}

-- a marking that goes on is one
pub is_marking : (d : Device) (m : System) (p : Pass) → IsRunning d m p → (IsPass (node_of d) p → ⊥) → ⊥
is_marking d m p r none = r.known (λ k. none k.pass)

-- what its roots reach keeps its nodes and stays used, they still have trees, no block leaves the note, and what must stay had
-- to before, or is noted
pub running_on : (d e : Device) (m n : System) (p : Pass) → e.geometry ≡ d.geometry → Agrees p.roots (node_of d) (node_of e)
    → (AreRoots (block_bytes d.geometry) (node_of d) p.roots → AreRoots (block_bytes d.geometry) (node_of e) p.roots)
    → ((b : ℕ) → set.contains m.state.storage.ring.used b ≡ true → set.contains n.state.storage.ring.used b ≡ true)
    → ((b : ℕ) → set.contains m.state.storage.ring.note b ≡ true → set.contains n.state.storage.ring.note b ≡ true)
    → ((b : ℕ) → MustStay e n b → MustStay d m b ⊎ (set.contains n.state.storage.ring.note b ≡ true))
    → IsRunning d m p → IsRunning e n p
running_on d e m n p geometry agrees trees used note stays r = record {
  blocks = r.blocks ∙ ap (λ (g : Geometry). g.blocks) (sym geometry);
  known = λ none. r.known (λ k. none (subst (λ (g : Geometry). IsKnownMarking (block_bytes g) (node_of e) p) (sym geometry) (known_stays (block_bytes d.geometry) (node_of d) (node_of e) p agrees trees k)));
  held = λ b reached. used b (r.held b (reached_back (node_of d) (node_of e) p.roots agrees reached));
  nodes = λ b reached none. let before = reached_back (node_of d) (node_of e) p.roots agrees reached in r.nodes b before (sym (agrees b before) ∙ none);
  taken = λ b must apart. elim (stays b must) [
    | inl before ↦ note b (r.taken b before (λ reached. apart (reached_same (node_of d) (node_of e) p.roots agrees reached)))
    | inr noted ↦ noted
  ];
}

-- ---- a commit

module _ {T : Type 0} (d e : Device) (m n : System) (result : Result T Fault) (s : IsSystem d m) (saves : Saves d m result e n) where
  abbrev nodes_are : node_of e ≡ node_of d
  nodes_are = same_nodes d e (same d e m n result s saves)

  still_reached : (b : ℕ) → IsReached e n.state b → IsReached d m.state b
  still_reached b reached =
      (listed_reached d m.state b).0
      (subst (λ (f : Blocks). Reached f (working_roots m.state) b) nodes_are
      (subst (λ (t : State). Reached (node_of e) (working_roots t) b) saves.state ((listed_reached e n.state b).1 reached)))

  still_must : (b : ℕ) → SavedAfter d e m n result s saves → MustStay e n b → MustStay d m b
  still_must b newest (inl reached) = inl (still_reached b reached)
  still_must b (inl was) (inr (r, is, reached)) = inr (r, sym was ∙ is, subst (λ (f : Blocks). Reached f (roots_of (history_of r)) b) nodes_are reached)
  still_must b (inr newly) (inr (r, is, reached)) =
      inl (of_saved (subst (λ (f : Blocks). Reached f (roots_of m.state.history) b) nodes_are
      (subst (λ (h : Past ℕ). Reached (node_of e) (roots_of h) b) newly.history
      (subst (λ (x : Record). Reached (node_of e) (roots_of (history_of x)) b) (same_record r newly.newest (sym is ∙ newly.saved)) reached))))
    where
      same_record : (a b : Record) → Some a ≡ Some b → a ≡ b
      same_record a b x = cc

      of_saved : Reached (node_of d) (roots_of m.state.history) b → IsReached d m.state b
      of_saved there = let from = reached_from (node_of d) (roots_of m.state.history) b there in (from.0, of_history m.state from.0 from.1, from.2)

  still_used : (b : ℕ) → set.contains m.state.storage.ring.used b ≡ true → set.contains n.state.storage.ring.used b ≡ true
  still_used b used = ap (λ (t : State). set.contains t.storage.ring.used b) saves.state ∙ used

  still_noted : (b : ℕ) → set.contains m.state.storage.ring.note b ≡ true → set.contains n.state.storage.ring.note b ≡ true
  still_noted b noted = ap (λ (t : State). set.contains t.storage.ring.note b) saves.state ∙ noted

  pub still_running : m.state.is_off ≡ false → n.pass ≡ m.pass → IfSome n.pass (IsRunning e n)
  still_running on is = subst (λ (o : Option Pass). IfSome o (IsRunning e n)) (sym is) (by m.pass (s.passing on))
    where
      by : (o : Option Pass) → IfSome o (IsRunning d m) → IfSome o (IsRunning e n)
      by None none = tt
      by (Some p) running =
          running_on d e m n p saves.only_anchors.geometry (λ b reached. node_is d e (same d e m n result s saves) b)
          (subst (λ (f : Blocks). AreRoots (block_bytes d.geometry) f p.roots) (sym nodes_are)) still_used still_noted
          (λ b must. inl (still_must b (saved_after d e m n result s saves) must)) running
