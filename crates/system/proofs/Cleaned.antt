-- A step of cleaning leaves a system.
use Rattle.std.proofs.Common.{◌≡◌, inl, inr, ℕ, ◌-◌, ◌<◌, Bool, true, false, ◌||◌, Option, Some, None, Result, Ok, Err, [], ◌∷◌, map, refl, sym, ap, subst, ◌∙◌, arith}
use Rattle.std.proofs.lemmas.Bool.{true≢false, both_ways}
use Rattle.std.specs.Option.{option_map}
use Rattle.std.specs.Prelude.{not, is_some, max, IfSome, Contains}
use Rattle.std.specs.FinSet as set
use Rattle.fs_types.specs.Names.{Name}
use Rattle.fs_types.specs.declared.call.Version.{Version}
use Rattle.fs_types.specs.declared.fault.Fault.{Fault}
use Rattle.fs_types.specs.declared.fault.Fault.TheVariants.{ReadOnly, PowerCut}
use Rattle.fs_types.specs.declared.limits.TheConstants.{ANCHORS}
use Rattle.history_machine.specs.HistoryMaps.{same-map_roots, same-map_group}
use Rattle.history_machine.specs.Machine.{IsMachine, machine_with}
use Rattle.flash_model.specs.declared.geometry.Geometry.{Geometry}
use Rattle.flash_model.specs.Device.{Device, block_of}
use Rattle.flash_model.specs.Geometry.{IsGeometry, block_bytes}
use Rattle.block_ring.specs.BlockSet.{BlockSet}
use Rattle.block_ring.specs.Ring.{Ring}
use Rattle.bad_blocks.specs.Mode.{is_read_only}
use Rattle.node_format.specs.Headers.{body_header}
use Rattle.node_format.specs.declared.place.Place.TheVariants.{Dir}
use Rattle.node_store.specs.NodePages.{node_of}
use Rattle.node_store.specs.NodeLaws.{node_of-same}
use Rattle.node_store.specs.declared.storage.Storage.{Storage}
use Rattle.nodes.specs.TreeLaws.{FrameLaw}
use Rattle.nodes.specs.Reached.{Reached}
use Rattle.nodes.specs.Trees.{IsRoot, root_tree}
use Rattle.nodes.proofs.Frames.{frame_law}
use Rattle.system.specs.CleaningRounds.{CleanEnds, CleansBlocks, ErasesFree, is_free}
use Rattle.system.proofs.PreparingLemmas.{looked_frees}
use Rattle.reclaim.specs.Passes.{Pass}
use Rattle.reclaim.specs.Verified.{AreRoots}
use Rattle.reclaim.proofs.Marking.{reached_back}
use Rattle.record_format.specs.declared.record.Record.{Record}
use Rattle.anchors.specs.Newest.{remembered}
use Rattle.anchors.proofs.NewestLaws.{only_anchors_matter}
use Rattle.anchors.proofs.Preparing.{anchors_keep}
use Rattle.anchors.proofs.Beginning.{still_may_commit}
use Rattle.working_state.specs.Roots.{HasRoot}
use Rattle.working_state.specs.Seen.{capacity_of, tree_on, machine_on}
use Rattle.working_state.specs.Steps.{is_cut_answer}
use Rattle.working_state.specs.Mounted.{IsStanding, IsMounted}
use Rattle.working_state.specs.declared.state.State.{State}
use Rattle.working_state.proofs.KeptBodies.{kept_known}
use Rattle.working_state.proofs.Roots.{of_versions, of_checkpoints, of_group, of_working}
use Rattle.mounting.specs.Records.{history_of, roots_of, trees_of}
use Rattle.mounting.specs.Saved.{saved_on, saved_trees, IsWholeRecord}
use Rattle.mounting.proofs.PlainRoots.{plain_stays}
use Rattle.mounting.proofs.Loading.{contains_front, contains_back}
use Rattle.system.specs.Cleaning.{Cleans, IsUndisturbed, LeavesAnchors, StepCleans, TellsRound}
use Rattle.system.specs.Systems.{IsSystem, IsRunning, MustStay}
use Rattle.system.specs.declared.systems.System.{System}
use Rattle.system.proofs.AfterCommits.{knows, known, is_newest, not_none}
use Rattle.system.proofs.Committed.{same_saved}
use Rattle.system.proofs.Measured.{reached_to}
use Rattle.system.proofs.Passing.{power_system}
use Rattle.system.proofs.Running.{running_on}
use Rattle.system.proofs.Syncs.{reached_from}

-- a system with another storage, of which a round of cleaning has come to a block, and with these blocks prepared
abbrev pub with_cleaned : System → Storage → ℕ → BlockSet → System
with_cleaned m t to prepared = record m { state = record m.state { storage = t }; cleaned_to = to; prepared = prepared }

module _ (d e : Device) (m : System) (t : Storage) (s : IsSystem d m) (on : m.state.is_off ≡ false) (erases : ErasesFree d m.state.storage e t) where
  abbrev used : ℕ → Bool
  used b = set.contains m.state.storage.ring.used b

  abbrev geometry : e.geometry ≡ d.geometry
  geometry = erases.device.geometry

  busy : (b : ℕ) → used b ≡ true → is_free m.state.storage b ≡ false
  busy b is = ap (λ (x : Bool). not (x || set.contains m.state.storage.bad b)) is

  busy_page : (p : ℕ) → is_free m.state.storage (block_of d p) ≡ false → e.pages p ≡ d.pages p
  busy_page p is = erases.pages p (λ free. both_ways (is_free m.state.storage (block_of d p)) is free.1)

  used_page : (p : ℕ) → used (block_of d p) ≡ true → e.pages p ≡ d.pages p
  used_page p is = busy_page p (busy (block_of d p) is)

  anchor_page : (p : ℕ) → block_of d p < ANCHORS → e.pages p ≡ d.pages p
  anchor_page p below = erases.pages p (λ free. let high = free.0.0 in absurd (omega arith))

  used_node : (b : ℕ) → used b ≡ true → node_of e b ≡ node_of d b
  used_node b is = node_of-same d e b s.mounted.lawful geometry (λ p own. used_page p (ap used own ∙ is))

  -- ---- what stands

  frame : FrameLaw (node_of d) (node_of e) used used
  frame = frame_law (node_of d) (node_of e) used used (record { same = used_node; stays = λ b is. is })

  same_capacity : capacity_of e ≡ capacity_of d
  same_capacity = ap (λ (g : Geometry). block_bytes g - body_header) geometry

  still_rooted : (root : ℕ) → IsStanding d m.state.storage.ring root → IsRoot (capacity_of e) (node_of e) root
  still_rooted root stands = subst (λ capacity. IsRoot capacity (node_of e) root) (sym same_capacity) (frame.shape (capacity_of d) 16 (Dir root) stands.held stands.rooted)

  still_stands : (root : ℕ) → IsStanding d m.state.storage.ring root → IsStanding e t.ring root
  still_stands root stands =
      subst (λ (r : Ring). IsStanding e r root) (sym erases.ring) (record { held = frame.held (Dir root) stands.held; rooted = still_rooted root stands })

  same_tree : (root : ℕ) → IsStanding d m.state.storage.ring root → tree_on e root ≡ tree_on d root
  same_tree root stands = ap (λ capacity. root_tree capacity (node_of e) root) same_capacity ∙ frame.roots (capacity_of d) root stands.held stands.rooted

  abbrev HasSameTree : ℕ → Type 0
  HasSameTree root = tree_on e root ≡ tree_on d root

  each_tree : (root : ℕ) → HasRoot m.state root → HasSameTree root
  each_tree root has = same_tree root (s.mounted.roots root has)

  same_machine : machine_on e m.state ≡ machine_on d m.state
  same_machine =
      let history = same-map_roots (tree_on e) (tree_on d) m.state.history (of_versions HasSameTree m.state each_tree) (of_checkpoints HasSameTree m.state each_tree) in
      let group = same-map_group (tree_on e) (tree_on d) m.state.group (of_group HasSameTree m.state each_tree) in
      λ i. machine_with (history i) (group i) m.state.files

  mounted : IsMounted e (record m.state { storage = t })
  mounted = record {
    lawful = subst IsGeometry (sym geometry) s.mounted.lawful;
    ring_blocks = ap (λ (r : Ring). r.blocks) erases.ring ∙ s.mounted.ring_blocks ∙ ap (λ (g : Geometry). g.blocks) (sym geometry);
    fits = erases.fits.fits s.mounted.fits;
    roots = λ root has. still_stands root (s.mounted.roots root has);
    machine = subst IsMachine (sym same_machine) s.mounted.machine;
    off = λ off. absurd (both_ways m.state.is_off on off);
  }

  -- ---- the newest record

  as_saved : saved_on e ≡ saved_on d
  as_saved = same_saved d e geometry (only_anchors_matter d.geometry d.pages e.pages anchor_page)

  record_stands : (r : Record) → saved_on e ≡ Some r → (root : ℕ) → Contains (roots_of (history_of r)) root → IsStanding d m.state.storage.ring root
  record_stands r is root has = s.stands on r (sym as_saved ∙ is) root has

  record_used : (r : Record) → saved_on d ≡ Some r → (b : ℕ) → Reached (node_of d) (roots_of (history_of r)) b → used b ≡ true
  record_used r is b there =
      let from_root = reached_from (node_of d) (roots_of (history_of r)) b there in
      (s.stands on r is from_root.0 from_root.1).held from_root.0 refl b from_root.2

  same_trees : saved_trees e ≡ saved_trees d
  same_trees = ap (option_map (trees_of e)) as_saved ∙ by (saved_on d) refl
    where
      by : (o : Option Record) → saved_on d ≡ o → option_map (trees_of e) o ≡ option_map (trees_of d) o
      by None is = refl
      by (Some r) is =
          let h = history_of r in
          let each : (root : ℕ) → Contains (roots_of h) root → tree_on e root ≡ tree_on d root = λ root has. same_tree root (s.stands on r is root has) in
          ap Some (same-map_roots (tree_on e) (tree_on d) h
          (λ k v below. each _ (contains_front (λ (x : Version ℕ). x.root) h.versions (map (λ (x : Name × ℕ). x.1) h.checkpoints) k v below))
          (λ k x below. each _ (contains_back (λ (y : Name × ℕ). y.1) (map (λ (v : Version ℕ). v.root) h.versions) h.checkpoints k x below)))

  whole : IsWholeRecord d → IsWholeRecord e
  whole before r is =
      let saved : saved_on d ≡ Some r = sym as_saved ∙ is in (
        λ root has. still_rooted root (s.stands on r saved root has),
        λ plain. plain_stays (node_of d) (node_of e) (roots_of (history_of r)) (λ c there. used_node c (record_used r saved c there)) ((before r saved).1 plain),
      )

  -- ---- the marking that goes on

  module _ (cleaned : ℕ) (prepared : BlockSet) (sized : prepared.blocks ≡ m.prepared.blocks) where
    abbrev n : System
    n = with_cleaned m t cleaned prepared

    still_must : (b : ℕ) → MustStay e n b → MustStay d m b
    still_must b (inl (root, has, reached)) = inl (root, has, frame.reached root b (s.mounted.roots root has).held reached)
    still_must b (inr (r, is, reached)) =
        let saved : saved_on d ≡ Some r = sym as_saved ∙ is in
        inr (r, saved, reached_back (node_of d) (node_of e) (roots_of (history_of r)) (λ c there. used_node c (record_used r saved c there)) reached)

    running : IfSome m.pass (IsRunning e n)
    running = by m.pass (s.passing on)
      where
        trees_stay : (p : Pass) → IsRunning d m p → AreRoots (block_bytes d.geometry) (node_of d) p.roots → AreRoots (block_bytes d.geometry) (node_of e) p.roots
        trees_stay p runs trees root has =
            let stands : IsStanding d m.state.storage.ring root = record {
              held = λ first is b reached. runs.held b (reached_to (node_of d) p.roots root b has (subst (λ (x : ℕ). Reached (node_of d) (x ∷ []) b) (sym is) reached));
              rooted = trees root has;
            } in
            subst (λ (g : Geometry). IsRoot (block_bytes g - body_header) (node_of e) root) geometry (still_rooted root stands)

        by : (o : Option Pass) → IfSome o (IsRunning d m) → IfSome o (IsRunning e n)
        by None none = tt
        by (Some p) runs =
            running_on d e m n p geometry (λ b reached. used_node b (runs.held b reached)) (trees_stay p runs)
            (λ b is. ap (λ (r : Ring). set.contains r.used b) erases.ring ∙ is) (λ b is. ap (λ (r : Ring). set.contains r.note b) erases.ring ∙ is) (λ b must. inl (still_must b must)) runs

    listed : (b : ℕ) → set.contains t.bad b ≡ true → set.contains t.ring.used b ≡ false → b < e.geometry.blocks
    listed b bad unused = subst (λ (g : Geometry). b < g.blocks) (sym geometry) (by (set.contains m.state.storage.bad b) refl)
      where
        by : (x : Bool) → set.contains m.state.storage.bad b ≡ x → b < d.geometry.blocks
        by true there = s.listed b there (sym (ap (λ (r : Ring). set.contains r.used b) erases.ring) ∙ unused)
        by false new = subst (λ (k : ℕ). b < k) s.mounted.ring_blocks (erases.new_bad b bad new).0.0.1

    pub cleaned_system : IsSystem e n
    cleaned_system = record {
      mounted = mounted;
      bodies = λ root is.
          let stands : IsStanding d m.state.storage.ring root = of_working (IsStanding d m.state.storage.ring) m.state root s.mounted.roots is in
          kept_known d e used used root m.state.files m.bodies (record { same = used_node; stays = λ b is. is }) same_capacity stands.held stands.rooted (s.bodies root is);
      prepared = sized ∙ s.prepared ∙ ap (λ (r : Ring). r.blocks) (sym erases.ring);
      saved = λ _. ap is_some as_saved ∙ s.saved on;
      stands = λ _ r is root has. still_stands root (record_stands r is root has);
      roots = λ _ r is. s.roots on r (sym as_saved ∙ is);
      passing = λ _. running;
      known = λ _.
          let place = s.known on in
          known e t.bad m.anchors (is_newest e t.bad m.anchors (not_none (remembered m.anchors) place.some)
          (still_may_commit d e m.state.storage.bad t.bad m.anchors geometry anchor_page erases.stays_bad (inl (knows d m.state.storage.bad m.anchors place))));
      listed = listed;
    }

    pub is_undisturbed : IsUndisturbed d m e n
    is_undisturbed = record {
      device = erases.device;
      history = refl;
      group = refl;
      machine = same_machine;
      ring = erases.ring;
      pass = refl;
      record_roots = refl;
      remembered = refl;
      room = erases.fits.same_room;
      busy_pages = busy_page;
      newest = anchors_keep d.geometry d.pages e.pages anchor_page;
      kept = λ p reached. used_page p ((s.mounted.roots reached.0 reached.1).held reached.0 refl (block_of d p) reached.2);
      record_kept = λ r is p reached. used_page p (record_used r is (block_of d p) reached);
      saved = same_trees;
      whole = whole;
      stays_bad = erases.stays_bad;
      new_bad = λ b now before. let x = erases.new_bad b now before in (x.0.1, x.1);
      failures = erases.failures;
    }

-- ---- a round that went on

module _ (d e : Device) (m : System) (t : Storage) (budget : ℕ) (ended : Result (Option ℕ) Fault) (s : IsSystem d m) (on : m.state.is_off ≡ false)
    (cleans : CleansBlocks d m.state.storage (max m.cleaned_to ANCHORS) budget ended e t) (to : ℕ) where
  frees : ErasesFree d m.state.storage e t
  frees = looked_frees d m.state.storage (max m.cleaned_to ANCHORS) cleans.to e t (omega arith) cleans.within cleans.looks

  pub round_system : IsSystem e (with_cleaned m t to m.prepared)
  round_system = cleaned_system d e m t s on frees to m.prepared refl

  pub round_undisturbed : IsUndisturbed d m e (with_cleaned m t to m.prepared)
  round_undisturbed = is_undisturbed d e m t s on frees to m.prepared refl

  pub round_leaves : LeavesAnchors d m e (with_cleaned m t to m.prepared)
  round_leaves = record { anchors = refl; pages = anchor_page d e m t s on frees }

  pub round_cleans : (result : Result Bool Fault) (read_only : Bool) → read_only ≡ false → read_only ≡ is_read_only m.state.storage.bad → TellsRound ended result to → StepCleans d m budget result e (with_cleaned m t to m.prepared)
  round_cleans result read_only writable same tells = record {
    read_only = λ is. absurd (both_ways read_only writable (same ∙ is));
    goes_on = λ _. record { ended = ended; cleans = cleans; tells = tells };
  }

-- ---- the power

module _ (d e : Device) (m n : System) (off : Bool) where
  abbrev pub turned : System
  turned = record n { state = record n.state { is_off = off } }

  pub undisturbed_still : IsUndisturbed d m e n → IsUndisturbed d m e turned
  undisturbed_still u = record {
    device = u.device;
    history = u.history;
    group = u.group;
    machine = u.machine;
    ring = u.ring;
    pass = u.pass;
    record_roots = u.record_roots;
    remembered = u.remembered;
    room = u.room;
    busy_pages = u.busy_pages;
    newest = u.newest;
    kept = u.kept;
    record_kept = u.record_kept;
    saved = u.saved;
    whole = u.whole;
    stays_bad = u.stays_bad;
    new_bad = u.new_bad;
    failures = u.failures;
  }

  step_still : (budget : ℕ) (result : Result Bool Fault) → StepCleans d m budget result e n → StepCleans d m budget result e turned
  step_still budget result c = record {
    read_only = c.read_only;
    goes_on = λ writable. let g = c.goes_on writable in record { ended = g.ended; cleans = g.cleans; tells = g.tells };
  }

-- a step that found the power off found it so
cut_off : (d : Device) (m : System) (budget : ℕ) (result : Result Bool Fault) (e : Device) (n : System) → StepCleans d m budget result e n → is_cut_answer result ≡ true → e.powered ≡ false
cut_off d m budget (Ok done) e n step cut = absurd (true≢false (sym cut))
cut_off d m budget (Err PowerCut) e n step cut = by (is_read_only m.state.storage.bad) refl
  where
    told : (to : ℕ) (ended : Result (Option ℕ) Fault) → TellsRound ended (Err PowerCut) n.cleaned_to → CleanEnds m.state.storage (max m.cleaned_to ANCHORS) to budget ended e n.state.storage → e.powered ≡ false
    told to (Ok (Some next)) tells ends = let wrong : Err PowerCut ≡ Ok false = tells.0 in absurd cc
    told to (Ok None) tells ends = let wrong : Err PowerCut ≡ Ok true = tells.0 in absurd cc
    told to (Err PowerCut) tells ends = ends
    told to (Err ReadOnly) tells ends = let wrong : Err PowerCut ≡ Err ReadOnly = tells.0 in absurd cc
    told to (Err _) tells ends = absurd ends

    by : (x : Bool) → is_read_only m.state.storage.bad ≡ x → e.powered ≡ false
    by true read_only = let wrong : Err PowerCut ≡ Err ReadOnly = (step.read_only read_only).0 in absurd cc
    by false writable = let g = step.goes_on writable in told g.cleans.to g.ended g.tells g.cleans.ends
cut_off d m budget (Err _) e n step cut = absurd (true≢false (sym cut))

-- it leaves a system
module _ (d e : Device) (m n : System) (budget : ℕ) (answer : Result Bool Fault) (on : m.state.is_off ≡ false) (system : IsSystem e n) (still_on : n.state.is_off ≡ false) (u : IsUndisturbed d m e n) (leaves : LeavesAnchors d m e n)
    (unprepared : n.prepared ≡ m.prepared) (step : StepCleans d m budget answer e n) where
  abbrev off : Bool
  off = n.state.is_off || is_cut_answer answer

  is_dark : off ≡ true → e.powered ≡ false
  is_dark dark = cut_off d m budget answer e n step (sym (ap (λ (x : Bool). x || is_cut_answer answer) still_on) ∙ dark)

  pub cleaned : (t : State) (result : Result Bool Fault) → t ≡ record n.state { is_off = off } → result ≡ answer → IsSystem e (record n { state = t }) × Cleans d m budget result e (record n { state = t })
  cleaned t result is same =
      subst (λ (r : Result Bool Fault). IsSystem e (record n { state = t }) × Cleans d m budget r e (record n { state = t })) (sym same)
      (subst (λ (v : State). IsSystem e (record n { state = v }) × Cleans d m budget answer e (record n { state = v })) (sym is) (
        power_system e n off system still_on is_dark,
        record {
          undisturbed = undisturbed_still d e m n off u;
          anchors = record { anchors = leaves.anchors; pages = leaves.pages };
          prepared = unprepared;
          cleans = λ _. step_still d e m n off budget answer step;
          off = ap (λ (x : Bool). x || is_cut_answer answer) (still_on ∙ sym on);
          stopped = λ stopped. absurd (both_ways m.state.is_off on stopped);
        },
      ))
