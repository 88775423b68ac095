-- A step of the working state is one of the system: it leaves the newest record.
use Rattle.std.proofs.Common.{◌≡◌, inl, inr, ℕ, ◌-◌, ◌<◌, Bool, true, false, Option, Some, None, Result, Ok, Err, [], ◌∷◌, map, refl, sym, ap, subst, ◌∙◌}
use Rattle.std.proofs.lemmas.Bool.{true≢false}
use Rattle.std.specs.Prelude.{◌⊎◌, is_some, IfSome, Contains}
use Rattle.std.specs.FinSet as set
use Rattle.std.specs.Option.{option_map}
use Rattle.fs_types.specs.Names.{Name}
use Rattle.fs_types.specs.declared.call.Call.{Call}
use Rattle.fs_types.specs.declared.call.Reply.{Reply}
use Rattle.fs_types.specs.declared.call.Version.{Version}
use Rattle.fs_types.specs.declared.fault.Fault.{Fault}
use Rattle.history_machine.specs.HistoryMaps.{same-map_roots}
use Rattle.flash_model.specs.declared.geometry.Geometry.{Geometry}
use Rattle.flash_model.specs.Device.{Device, block_of}
use Rattle.flash_model.specs.Geometry.{block_bytes}
use Rattle.node_format.specs.Headers.{body_header}
use Rattle.node_store.specs.NodePages.{node_of}
use Rattle.node_store.specs.Storage.{Storage, storage, Evolved}
use Rattle.node_store.specs.StoreLaws.{Evolved_node}
use Rattle.nodes.specs.Reached.{Reached}
use Rattle.nodes.specs.Trees.{IsRoot}
use Rattle.reclaim.specs.Passes.{Pass}
use Rattle.reclaim.specs.Verified.{AreRoots}
use Rattle.reclaim.proofs.Marking.{reached_back}
use Rattle.record_format.specs.declared.record.Record.{Record}
use Rattle.anchors.specs.Newest.{remembered}
use Rattle.anchors.proofs.NewestLaws.{only_anchors_matter}
use Rattle.anchors.proofs.Beginning.{still_may_commit}
use Rattle.working_state.specs.Seen.{seen_on, tree_on, machine_on, showing}
use Rattle.working_state.specs.Steps.{is_sync, AnswersOnce}
use Rattle.working_state.specs.Mounted.{IsStanding, IsMounted, StateStep, KeepsPages}
use Rattle.working_state.specs.OpenBodies.{KnowsBodies}
use Rattle.working_state.specs.Roots.{IsReached}
use Rattle.working_state.specs.declared.known_bodies.KnownBodies.{KnownBodies}
use Rattle.working_state.specs.declared.state.State.{State}
use Rattle.working_state.proofs.Standing.{still_stands, same_tree}
use Rattle.mounting.specs.Records.{history_of, roots_of, trees_of}
use Rattle.mounting.specs.Saved.{saved_on, saved_trees, IsWholeRecord}
use Rattle.mounting.proofs.PlainRoots.{plain_stays}
use Rattle.system.specs.Commits.{TriesOnce}
use Rattle.system.specs.Systems.{IsSystem, IsRunning, MustStay}
use Rattle.system.specs.declared.systems.System.{System}
use Rattle.system.proofs.AfterCommits.{knows, known, is_newest, not_none}
use Rattle.system.proofs.Committed.{same_saved}
use Rattle.mounting.proofs.Loading.{contains_front, contains_back}
use Rattle.system.proofs.Measured.{reached_to}
use Rattle.system.proofs.Running.{running_on}
use Rattle.system.proofs.Syncs.{reached_from}

-- the system with another working state, and with what is known of open files then
abbrev pub with_call : System → State → KnownBodies → System
with_call m t bodies = record m { state = t; bodies = bodies }

-- the system with another working state
abbrev pub with_state : System → State → System
with_state m t = record m { state = t }

module _ (d e : Device) (m : System) (t : State) (bodies : KnownBodies) (call : Call) (result : Result Reply Fault) (s : IsSystem d m) (step : StateStep d m.state call result e t) where
  abbrev was : Storage
  was = storage d m.state.storage.bad m.state.storage.ring

  abbrev now : Storage
  now = storage e t.storage.bad t.storage.ring

  evolved : Evolved was now
  evolved = step.leaves.written.evolved

  -- no call answered before that the power is off, if none has now
  was_on : t.is_off ≡ false → m.state.is_off ≡ false
  was_on on = by m.state.is_off t.is_off result refl step.step.answers on
    where
      by : (a b : Bool) (r : Result Reply Fault) → m.state.is_off ≡ a
          → AnswersOnce (showing (seen_on d m.state) (machine_on d m.state) a) call r (showing (seen_on e t) (machine_on e t) b) → b ≡ false → m.state.is_off ≡ false
      by false b r is answers off = is
      by true b (Ok reply) is answers off = absurd (true≢false answers.0)
      by true b (Err fault) is answers off = absurd (true≢false (sym answers.3 ∙ off))

  as_saved : saved_on e ≡ saved_on d
  as_saved = same_saved d e evolved.geometry (only_anchors_matter d.geometry d.pages e.pages evolved.anchor_pages)

  stands : m.state.is_off ≡ false → (r : Record) → saved_on d ≡ Some r → (root : ℕ) → Contains (roots_of (history_of r)) root → IsStanding e t.storage.ring root
  stands on r is root has = still_stands was now root s.mounted.lawful evolved (s.stands on r is root has)

  listed : (b : ℕ) → set.contains t.storage.bad b ≡ true → set.contains t.storage.ring.used b ≡ false → b < e.geometry.blocks
  listed b bad unused = subst (λ (g : Geometry). b < g.blocks) (sym evolved.geometry) (on (set.contains m.state.storage.bad b) refl)
    where
      unused_before : (x : Bool) → set.contains m.state.storage.ring.used b ≡ x → set.contains m.state.storage.ring.used b ≡ false
      unused_before false is = is
      unused_before true is = absurd (true≢false (sym (evolved.kept b is) ∙ unused))

      on : (x : Bool) → set.contains m.state.storage.bad b ≡ x → b < d.geometry.blocks
      on true there = s.listed b there (unused_before (set.contains m.state.storage.ring.used b) refl)
      on false new = absurd (true≢false (sym (evolved.bad_used b bad new) ∙ unused))

  -- what must stay had to before, or was taken
  still_must : IsMounted e t → m.state.is_off ≡ false → (b : ℕ) → MustStay e (with_call m t bodies) b → MustStay d m b ⊎ (set.contains t.storage.ring.note b ≡ true)
  still_must mounted on b (inl reached) = elim (step.reached b reached) [
    | inl before ↦ inl (inl before)
    | inr fresh ↦ inr (evolved.noted b (reached_used reached) fresh.0)
  ]
    where
      reached_used : IsReached e t b → set.contains t.storage.ring.used b ≡ true
      reached_used (root, has, there) = (mounted.roots root has).held root refl b there
  still_must mounted on b (inr (r, is, reached)) =
      inl (inr (r, sym as_saved ∙ is, reached_back (node_of d) (node_of e) (roots_of (history_of r)) (λ c there. Evolved_node was now c s.mounted.lawful evolved (record_used c there)) reached))
    where
      record_used : (c : ℕ) → Reached (node_of d) (roots_of (history_of r)) c → set.contains m.state.storage.ring.used c ≡ true
      record_used c there =
          let from = reached_from (node_of d) (roots_of (history_of r)) c there in
          (s.stands on r (sym as_saved ∙ is) from.0 from.1).held from.0 refl c from.2

  running : IsMounted e t → m.state.is_off ≡ false → IfSome m.pass (IsRunning e (with_call m t bodies))
  running mounted on = by m.pass (s.passing on)
    where
      trees_stay : (p : Pass) → IsRunning d m p → AreRoots (block_bytes d.geometry) (node_of d) p.roots → AreRoots (block_bytes d.geometry) (node_of e) p.roots
      trees_stay p runs trees root has =
          let stands : IsStanding d m.state.storage.ring root = record {
            held = λ first is b reached. runs.held b (reached_to (node_of d) p.roots root b has (subst (λ (x : ℕ). Reached (node_of d) (x ∷ []) b) (sym is) reached));
            rooted = trees root has;
          } in
          subst (λ (g : Geometry). IsRoot (block_bytes g - body_header) (node_of e) root) evolved.geometry (still_stands was now root s.mounted.lawful evolved stands).rooted

      by : (o : Option Pass) → IfSome o (IsRunning d m) → IfSome o (IsRunning e (with_call m t bodies))
      by None none = tt
      by (Some p) runs =
          running_on d e m (with_call m t bodies) p evolved.geometry (λ b reached. Evolved_node was now b s.mounted.lawful evolved (runs.held b reached)) (trees_stay p runs) evolved.kept evolved.note_stays (still_must mounted on) runs

  pub state_system : IsMounted e t → KnowsBodies e t bodies → IsSystem e (with_call m t bodies)
  state_system mounted known_bodies = record {
    mounted = mounted;
    bodies = known_bodies;
    prepared = s.prepared ∙ sym evolved.blocks;
    saved = λ on. ap is_some as_saved ∙ s.saved (was_on on);
    stands = λ on r is. stands (was_on on) r (sym as_saved ∙ is);
    roots = λ on r is. s.roots (was_on on) r (sym as_saved ∙ is);
    passing = λ on. running mounted (was_on on);
    known = λ on.
        let place = s.known (was_on on) in
        known e t.storage.bad m.anchors (is_newest e t.storage.bad m.anchors (not_none (remembered m.anchors) place.some)
        (still_may_commit d e m.state.storage.bad t.storage.bad m.anchors evolved.geometry evolved.anchor_pages evolved.stays_bad (inl (knows d m.state.storage.bad m.anchors place))));
    listed = listed;
  }

  -- ---- the newest record

  same_trees : m.state.is_off ≡ false → saved_trees e ≡ saved_trees d
  same_trees on = ap (option_map (trees_of e)) as_saved ∙ by (saved_on d) refl
    where
      by : (o : Option Record) → saved_on d ≡ o → option_map (trees_of e) o ≡ option_map (trees_of d) o
      by None is = refl
      by (Some r) is =
          let h = history_of r in
          let each : (root : ℕ) → Contains (roots_of h) root → tree_on e root ≡ tree_on d root = λ root has. same_tree was now root s.mounted.lawful evolved (s.stands on r is root has) in
          ap Some (same-map_roots (tree_on e) (tree_on d) h
          (λ k v below. each _ (contains_front (λ (x : Version ℕ). x.root) h.versions (map (λ (x : Name × ℕ). x.1) h.checkpoints) k v below))
          (λ k x below. each _ (contains_back (λ (y : Name × ℕ). y.1) (map (λ (v : Version ℕ). v.root) h.versions) h.checkpoints k x below)))

  by_power : {P : Type 0} → (m.state.is_off ≡ true → P) → (m.state.is_off ≡ false → P) → P
  by_power {P} off on = by m.state.is_off refl
    where
      by : (b : Bool) → m.state.is_off ≡ b → P
      by true is = off is
      by false is = on is

  either : saved_trees e ≡ saved_trees d
  either = by_power (λ off. ap saved_trees (step.stopped off).0) same_trees

  whole : IsWholeRecord d → IsWholeRecord e
  whole before = by_power (λ off. subst IsWholeRecord (sym (step.stopped off).0) before) (λ on r is.
      let saved : saved_on d ≡ Some r = sym as_saved ∙ is in (
        λ root has. (stands on r saved root has).rooted,
        λ plain. plain_stays (node_of d) (node_of e) (roots_of (history_of r))
            (λ c there.
            let from = reached_from (node_of d) (roots_of (history_of r)) c there in
            Evolved_node was now c s.mounted.lawful evolved ((s.stands on r saved from.0 from.1).held from.0 refl c from.2))
            ((before r saved).1 plain),
      ))

  kept : (r : Record) → saved_on d ≡ Some r → (p : ℕ) → Reached (node_of d) (roots_of (history_of r)) (block_of d p) → e.pages p ≡ d.pages p
  kept r is p reached =
      by_power (λ off. ap (λ (x : Device). x.pages p) (step.stopped off).0)
      (λ on.
      let from = reached_from (node_of d) (roots_of (history_of r)) (block_of d p) reached in
      evolved.kept_pages p ((s.stands on r is from.0 from.1).held from.0 refl (block_of d p) from.2))

  pages : KeepsPages d m.state e
  pages p (root, has, reached) = evolved.kept_pages p ((s.mounted.roots root has).held root refl (block_of d p) reached)

  pub state_step : is_sync call ≡ false → (m.state.is_off ≡ true → bodies ≡ m.bodies) → TriesOnce d m call result e (with_call m t bodies)
  state_step other still = record {
    step = step.step;
    leaves = λ none. step.leaves;
    saves = λ sync. absurd (true≢false (sym sync ∙ other));
    told = step.told;
    refused = step.refused;
    regrouped = step.regrouped;
    stopped = λ off. let same = step.stopped off in (same.0, λ i. with_call m (same.1 i) (still off i));
    last = λ sync. absurd (true≢false (sym sync ∙ other));
    pass = refl;
    prepared = refl;
    pages = pages;
    after = record {
      either = inl either;
      synced = λ sync. absurd (true≢false (sym sync ∙ other));
      whole = whole;
      anchors = λ is. evolved.anchor_pages;
      kept = inl kept;
    };
  }
