-- A step of reclaiming leaves a system.
use Rattle.std.proofs.Common.{◌≡◌, ◌≢◌, inl, inr, ℕ, ◌+◌, ◌*◌, ◌-◌, ◌^◌, ◌<◌, ◌≤◌, ◌++◌, length, Bool, true, false, ◌||◌, Option, Some, None, Result, Ok, Err, List, [], ◌∷◌, refl, sym, ap, subst, ◌∙◌, arith}
use Rattle.std.proofs.lemmas.Bool.{true≢false, both_ways}
use Rattle.std.proofs.lemmas.Cmp.{nat_cmp_total}
use Rattle.std.proofs.lemmas.List.Elements.{Contains-append_left, Contains-append_right, Contains-append_cases}
use Rattle.std.specs.Prelude.{◌↔◌, ◌&&◌, not, Contains, IfSome, IsErrOf, is_some, Vec}
use Rattle.std.specs.declared.alloc.Global.{Global}
use Rattle.std.specs.FinSet as set
use Rattle.std.specs.Ordering.{nat_cmp}
use Rattle.fs_types.specs.declared.call.Group.{Group}
use Rattle.fs_types.specs.declared.fault.Fault.{Fault}
use Rattle.fs_types.specs.declared.fault.Fault.TheVariants.{ReadFailed, PowerCut, NoMemory, Damaged}
use Rattle.history_machine.specs.History.{Past, map_roots, map_group}
use Rattle.history_machine.specs.Machine.{Machine, IsMachine, machine_with}
use Rattle.flash_model.specs.declared.geometry.Geometry.{Geometry}
use Rattle.flash_model.specs.Device.{Device}
use Rattle.flash_model.specs.Geometry.{IsGeometry, block_bytes}
use Rattle.flash_model.specs.Reading.{OnlyReads, OnlyReads_itself, OnlyReads_on}
use Rattle.block_ring.specs.BlockSet.{BlockSet}
use Rattle.block_ring.specs.Ring.{Ring, IsDataBlock, AreDataBlocks}
use Rattle.node_format.specs.Headers.{body_header}
use Rattle.node_store.specs.Fitting.{StillFits}
use Rattle.node_store.specs.FittingLaws.{still_on}
use Rattle.node_store.specs.Faults.{IsReadFault}
use Rattle.node_store.specs.NodePages.{node_of}
use Rattle.node_store.specs.Stores.{Causes}
use Rattle.node_store.specs.declared.store.Store.{Store}
use Rattle.node_store.specs.declared.storage.Storage.{Storage}
use Rattle.nodes.specs.Bodies.{Blocks}
use Rattle.nodes.specs.Reached.{Reached}
use Rattle.nodes.specs.Trees.{IsRoot}
use Rattle.reclaim.specs.Kinds.{Knows}
use Rattle.reclaim.specs.Passes.{Pass, IsPass, IsFinished}
use Rattle.reclaim.proofs.KnownPasses.{begins_known}
use Rattle.reclaim.specs.Verified.{AreRoots}
use Rattle.reclaim.proofs.Soundness.{trees_hold_nodes}
use Rattle.record_format.specs.declared.record.Record.{Record}
use Rattle.anchors.specs.declared.anchors.Anchors.{Anchors}
use Rattle.anchors.specs.Newest.{remembered}
use Rattle.anchors.specs.Remembering.{MayCommit}
use Rattle.anchors.proofs.Beginning.{still_may_commit}
use Rattle.working_state.specs.Leaves.{HasLooked}
use Rattle.working_state.specs.Mounted.{IsStanding, IsMounted}
use Rattle.working_state.specs.OpenBodies.{KnowsBodies}
use Rattle.working_state.specs.Roots.{HasRoot}
use Rattle.working_state.specs.declared.known_bodies.KnownBodies.{KnownBodies}
use Rattle.working_state.proofs.KeptBodies.{same_knows}
use Rattle.working_state.specs.Seen.{capacity_of, seen_of, machine_on}
use Rattle.working_state.specs.Steps.{is_cut_answer}
use Rattle.working_state.specs.Worked.{ReadCause}
use Rattle.working_state.specs.declared.state.State.{State}
use Rattle.system.specs.Reclaiming.{AsksForRest, AsksToStep, GoesOnFrom, Advances, ReadsOn, EndsPass, StepEnds, Stays, IsStillPrepared, Reclaims, marking_of}
use Rattle.mounting.specs.Records.{history_of, roots_of, group_roots, working_roots}
use Rattle.mounting.specs.Saved.{saved_on}
use Rattle.system.specs.Systems.{IsSystem, IsRunning, MustStay}
use Rattle.system.specs.declared.systems.System.{System}
use Rattle.system.proofs.AfterCommits.{knows, known, is_newest, not_none}
use Rattle.system.proofs.Costing.{asks_still, asks_on}
use Rattle.mounting.proofs.Installed.{marked_in, with_ring, with_marks}
use Rattle.system.proofs.Measured.{has_same, listed_root, listed_reached, mounted_roots, reached_to}
use Rattle.mounting.proofs.Marking.{roots_hold_data}
use Rattle.system.proofs.Running.{is_marking, running_on}
use Rattle.mounting.proofs.SameNodes.{HasSameData, node_is, same_nodes, same_tree, stands_too}
use Rattle.system.proofs.SameRecords.{still_saved}
use Rattle.system.proofs.Syncs.{reached_from}

-- what a step read, by its answer
pub reads_on : (budget : ℕ) (from : Pass) (result : Result Bool Fault) (to : Pass) → (result ≡ Ok false → (to.next ≡ from.next + budget) × (to.next < length to.order)) → (result ≡ Ok true → (to.next ≤ from.next + budget) × IsFinished to)
    → (result ≡ Ok false → budget < 2 ^ 64 - 1) → ReadsOn budget from result to
reads_on budget from (Ok false) to more done all = ((more refl).0, (more refl).1, all refl)
reads_on budget from (Ok true) to more done all = done refl
reads_on budget from (Err fault) to more done all = tt

-- ---- systems that differ in what is used alone

-- only reads came between, and all is as it was but used blocks, of which those that must stay are left; the note; and the
-- marking that goes on
pub record Keeps (d e : Device) (m n : System) : Type 0 where
  pub reads : OnlyReads d e
  pub history : n.state.history ≡ m.state.history
  pub group : n.state.group ≡ m.state.group
  pub bodies : n.bodies ≡ m.bodies
  pub sized : n.prepared.blocks ≡ m.prepared.blocks
  pub prepared : IsStillPrepared m n
  pub rest : machine_on d n.state ≡ machine_on d m.state
  pub is_on : n.state.is_off ≡ false
  pub bad : n.state.storage.bad ≡ m.state.storage.bad
  pub blocks : n.state.storage.ring.blocks ≡ m.state.storage.ring.blocks
  pub last : n.state.storage.ring.last ≡ m.state.storage.ring.last
  pub takes : n.state.storage.ring.takes ≡ m.state.storage.ring.takes
  pub fits : StillFits d m.state.storage e n.state.storage
  pub anchors : n.anchors ≡ m.anchors
  pub record_roots : n.record_roots ≡ m.record_roots
  pub used : (b : ℕ) → MustStay d m b → set.contains n.state.storage.ring.used b ≡ true
  pub listed : (b : ℕ) → set.contains m.state.storage.bad b ≡ true → set.contains n.state.storage.ring.used b ≡ false → b < d.geometry.blocks

-- what must stay is used
pub must_used : (d : Device) (m : System) → IsSystem d m → m.state.is_off ≡ false → (b : ℕ) → MustStay d m b → set.contains m.state.storage.ring.used b ≡ true
must_used d m s on b (inl (root, has, reached)) = (s.mounted.roots root has).held root refl b reached
must_used d m s on b (inr (r, is, reached)) =
    let from = reached_from (node_of d) (roots_of (history_of r)) b reached in
    (s.stands on r is from.0 from.1).held from.0 refl b from.2

module _ (d e : Device) (m n : System) (s : IsSystem d m) (on : m.state.is_off ≡ false) (k : Keeps d e m n) where
  same : HasSameData d e
  same = record { lawful = s.mounted.lawful; geometry = k.reads.geometry; data_pages = λ p least. k.reads.pages p }

  saved : saved_on e ≡ saved_on d
  saved = still_saved d e s.mounted.lawful k.reads.geometry k.reads.pages

  machine : machine_on e n.state ≡ machine_on d m.state
  machine = (λ i. machine_with (map_roots (same_tree d e same i) n.state.history) (map_group (same_tree d e same i) n.state.group) n.state.files) ∙ k.rest

  -- what a root that must stay reaches is used
  standing : (root : ℕ) → ((b : ℕ) → Reached (node_of d) (root ∷ []) b → MustStay d m b) → IsStanding d m.state.storage.ring root → IsStanding e n.state.storage.ring root
  standing root must stands = record {
    held = λ first is b reached. k.used b (must b (subst (λ (x : ℕ). Reached (node_of d) (x ∷ []) b) (sym is) (subst (λ (f : Blocks). Reached f (first ∷ []) b) (same_nodes d e same) reached)));
    rooted = (stands_too d e same m.state.storage.ring root stands).rooted;
  }

  pub still_must : (b : ℕ) → MustStay e n b → MustStay d m b
  still_must b (inl reached) =
      inl ((listed_reached d m.state b).0
      (subst (λ (f : Blocks). Reached f (working_roots m.state) b) (same_nodes d e same)
      (subst (λ (x : Past ℕ × Option (Group ℕ)). Reached (node_of e) (roots_of x.0 ++ group_roots x.1) b) (λ i. (k.history i, k.group i)) ((listed_reached e n.state b).1 reached))))
  still_must b (inr (r, is, reached)) = inr (r, sym saved ∙ is, subst (λ (f : Blocks). Reached f (roots_of (history_of r)) b) (same_nodes d e same) reached)

  kept_mounted : IsMounted e n.state
  kept_mounted = record {
    lawful = subst IsGeometry (sym k.reads.geometry) s.mounted.lawful;
    ring_blocks = k.blocks ∙ s.mounted.ring_blocks ∙ ap (λ (g : Geometry). g.blocks) (sym k.reads.geometry);
    fits = k.fits.fits s.mounted.fits;
    roots = λ root has. let before = had root has in standing root (λ b reached. inl (root, before, reached)) (s.mounted.roots root before);
    machine = subst IsMachine (sym machine) s.mounted.machine;
    off = λ off. absurd (both_ways n.state.is_off k.is_on off);
  }
    where
      had : (root : ℕ) → HasRoot n.state root → HasRoot m.state root
      had root has = has_same n.state m.state root (sym k.history) (sym k.group) has

  pub kept_system : IfSome n.pass (IsRunning e n) → IsSystem e n
  kept_system passing = record {
    mounted = kept_mounted;
    bodies = subst (λ (known : KnownBodies). KnowsBodies e n.state known) (sym k.bodies)
        (same_knows d e m.state n.state m.bodies (same_nodes d e same) (ap (λ (g : Geometry). block_bytes g - body_header) k.reads.geometry) k.history k.group (ap (λ (x : Machine). x.descriptors) k.rest) s.bodies);
    prepared = k.sized ∙ s.prepared ∙ sym k.blocks;
    saved = λ _. ap is_some saved ∙ s.saved on;
    stands = λ _ r is root has.
        let was = sym saved ∙ is in
        standing root (λ b reached. inr (r, was, reached_to (node_of d) (roots_of (history_of r)) root b has reached)) (s.stands on r was root has);
    roots = λ _ r is. ap (λ (v : Vec ℕ Global). v.items) k.record_roots ∙ s.roots on r (sym saved ∙ is);
    passing = λ _. passing;
    known = λ _.
        let place = s.known on in
        let before = m.state.storage.bad in
        let bad = n.state.storage.bad in
        known e bad n.anchors
        (is_newest e bad n.anchors (λ none. not_none (remembered m.anchors) place.some (ap remembered (sym k.anchors) ∙ none))
        (subst (λ (a : Anchors). MayCommit e bad a) (sym k.anchors)
        (still_may_commit d e before bad m.anchors k.reads.geometry (λ p anchor. k.reads.pages p) (λ b is. ap (λ (x : set.FinSet nat_cmp). set.contains x b) k.bad ∙ is) (inl (knows d before m.anchors place)))));
    listed = λ b bad unused. subst (λ (g : Geometry). b < g.blocks) (sym k.reads.geometry) (k.listed b (ap (λ (x : set.FinSet nat_cmp). set.contains x b) (sym k.bad) ∙ bad) unused);
  }

  pub kept_stays : Stays d m e n
  kept_stays = record { reads = k.reads; history = k.history; group = k.group; machine = machine; bad = k.bad; last = k.last; takes = k.takes; anchors = k.anchors; room = k.fits.same_room; prepared = k.prepared }

  -- a marking goes on, as long as no block leaves the note and what its roots reach stays used
  pub kept_running : (p : Pass) → ((b : ℕ) → set.contains m.state.storage.ring.used b ≡ true → set.contains n.state.storage.ring.used b ≡ true)
      → n.state.storage.ring.note ≡ m.state.storage.ring.note → IsRunning d m p → IsRunning e n p
  kept_running p used note running =
      running_on d e m n p k.reads.geometry (λ b reached. node_is d e same b) (subst (λ (f : Blocks). AreRoots (block_bytes d.geometry) f p.roots) (sym (same_nodes d e same))) used (λ b is. ap (λ (x : set.FinSet nat_cmp). set.contains x b) note ∙ is)
      (λ b must. inl (still_must b must)) running

  -- a step of the marking
  pub advanced : (p q : Pass) → Advances p q → Knows (block_bytes d.geometry) (node_of d) q → IsRunning e n p → IsRunning e n q
  advanced p q goes known running = record {
    blocks = goes.blocks ∙ running.blocks;
    known = subst (λ (g : Geometry). Knows (block_bytes g) (node_of e) q) (sym k.reads.geometry) (subst (λ (f : Blocks). Knows (block_bytes d.geometry) f q) (sym (same_nodes d e same)) known);
    held = λ b reached. running.held b (subst (λ (l : List ℕ). Reached (node_of e) l b) goes.roots reached);
    nodes = λ b reached. running.nodes b (subst (λ (l : List ℕ). Reached (node_of e) l b) goes.roots reached);
    taken = λ b must apart. running.taken b must (λ reached. apart (subst (λ (l : List ℕ). Reached (node_of e) l b) (sym goes.roots) reached));
  }

pub stays_on : (d e f : Device) (l m n : System) → Stays d l e m → Stays e m f n → Stays d l f n
stays_on d e f l m n a b = record {
  reads = OnlyReads_on d e f a.reads b.reads;
  history = b.history ∙ a.history;
  group = b.group ∙ a.group;
  machine = b.machine ∙ a.machine;
  bad = b.bad ∙ a.bad;
  last = b.last ∙ a.last;
  takes = b.takes ∙ a.takes;
  anchors = b.anchors ∙ a.anchors;
  room = b.room ∙ a.room;
  prepared = λ q is unused. let x = b.prepared q is unused in a.prepared q x.0 x.1;
}

-- ---- a marking is taken up

-- a system with another note, and no marking
abbrev pub with_note : System → set.FinSet nat_cmp → System
with_note m note = record m { state = record m.state { storage = record m.state.storage { ring = record m.state.storage.ring { note = note } } }; pass = None }

module _ (d : Device) (m : System) (s : IsSystem d m) (on : m.state.is_off ≡ false) where
  -- the roots of what must stay are data blocks with trees
  must_have_trees : AreRoots (block_bytes d.geometry) (node_of d) (working_roots m.state ++ m.record_roots.items)
  must_have_trees root has = elim (Contains-append_cases (working_roots m.state) m.record_roots.items root has) [
    | inl working ↦ mounted_roots d m.state s.mounted root working
    | inr newest ↦ by (saved_on d) refl (s.saved on) newest
  ]
    where
      by : (o : Option Record) → saved_on d ≡ o → is_some o ≡ true → Contains m.record_roots.items root → IsRoot (capacity_of d) (node_of d) root
      by None is some newest = absurd (true≢false (sym some))
      by (Some r) is some newest = (s.stands on r is root (subst (λ (l : List ℕ). Contains l root) (s.roots on r is) newest)).rooted

  pub must_be_data : (b : ℕ) → Contains (working_roots m.state ++ m.record_roots.items) b → IsDataBlock m.state.storage.ring.blocks b
  must_be_data b has = subst (λ blocks. IsDataBlock blocks b) (sym s.mounted.ring_blocks) (roots_hold_data d (working_roots m.state ++ m.record_roots.items) must_have_trees b has)

  -- they reach all that must stay, and no more
  must_reach : (b : ℕ) → MustStay d m b → Reached (node_of d) (working_roots m.state ++ m.record_roots.items) b
  must_reach b (inl reached) =
      let from = reached_from (node_of d) (working_roots m.state) b ((listed_reached d m.state b).1 reached) in
      reached_to (node_of d) (working_roots m.state ++ m.record_roots.items) from.0 b (Contains-append_left (working_roots m.state) m.record_roots.items from.0 from.1) from.2
  must_reach b (inr (r, is, reached)) =
      let from = reached_from (node_of d) (roots_of (history_of r)) b reached in
      reached_to (node_of d) (working_roots m.state ++ m.record_roots.items) from.0 b
      (Contains-append_right (working_roots m.state) m.record_roots.items from.0 (subst (λ (l : List ℕ). Contains l from.0) (sym (s.roots on r is)) from.1)) from.2

  reached_must : (b : ℕ) → Reached (node_of d) (working_roots m.state ++ m.record_roots.items) b → MustStay d m b
  reached_must b reached =
      let from = reached_from (node_of d) (working_roots m.state ++ m.record_roots.items) b reached in
      elim (Contains-append_cases (working_roots m.state) m.record_roots.items from.0 from.1) [
        | inl working ↦ inl (from.0, (listed_root m.state from.0).1 working, from.2)
        | inr newest ↦ by (saved_on d) refl (s.saved on) from.0 newest from.2
      ]
    where
      by : (o : Option Record) → saved_on d ≡ o → is_some o ≡ true → (root : ℕ) → Contains m.record_roots.items root → Reached (node_of d) (root ∷ []) b → MustStay d m b
      by None is some root newest there = absurd (true≢false (sym some))
      by (Some r) is some root newest there = inr (r, is, reached_to (node_of d) (roots_of (history_of r)) root b (subst (λ (l : List ℕ). Contains l root) (s.roots on r is) newest) there)

  -- a new marking begins at the roots of what must stay
  new_roots : (p : Pass) (note : set.FinSet nat_cmp) → m.pass ≡ None → GoesOnFrom m p note → p.roots ≡ working_roots m.state ++ m.record_roots.items
  new_roots p note none (inl (was, at)) = absurd (no_pass p (sym was ∙ none))
    where
      no_pass : (p : Pass) → (let o : Option Pass = Some p in o ≡ None) → ⊥
      no_pass p e = cc
  new_roots p note none (inr (absent, roots, next, at)) = roots

  known_of_new : (p : Pass) (note : set.FinSet nat_cmp) → m.pass ≡ None → GoesOnFrom m p note → ((f : Blocks) → IsPass f p) → ((b : ℕ) → Contains p.order b → Contains p.roots b) × (p.bodies ≡ set.empty)
      → Knows (block_bytes d.geometry) (node_of d) p
  known_of_new p note none from begun first =
      begins_known (block_bytes d.geometry) (node_of d) p (subst (AreRoots (block_bytes d.geometry) (node_of d)) (sym (new_roots p note none from)) must_have_trees)
      (begun (node_of d)) first.0 first.1

  module _ (n : System) (is : n ≡ with_note m n.state.storage.ring.note) where
    pub noted_keeps : Keeps d d m n
    noted_keeps = record {
      reads = OnlyReads_itself d;
      history = ap (λ (x : System). x.state.history) is;
      group = ap (λ (x : System). x.state.group) is;
      bodies = ap (λ (x : System). x.bodies) is;
      sized = ap (λ (x : System). x.prepared.blocks) is;
      prepared = λ b has unused. (
        sym (ap (λ (x : System). set.contains x.prepared.members b) is) ∙ has,
        sym (ap (λ (x : System). set.contains x.state.storage.ring.used b) is) ∙ unused,
      );
      rest = ap (λ (x : System). machine_on d x.state) is;
      is_on = ap (λ (x : System). x.state.is_off) is ∙ on;
      bad = ap (λ (x : System). x.state.storage.bad) is;
      blocks = ap (λ (x : System). x.state.storage.ring.blocks) is;
      last = ap (λ (x : System). x.state.storage.ring.last) is;
      takes = ap (λ (x : System). x.state.storage.ring.takes) is;
      fits = subst (λ (x : System). StillFits d m.state.storage d x.state.storage) (sym is) (with_ring d m.state.storage (record m.state.storage.ring { note = n.state.storage.ring.note }));
      anchors = ap (λ (x : System). x.anchors) is;
      record_roots = ap (λ (x : System). x.record_roots) is;
      used = λ b must. ap (λ (x : System). set.contains x.state.storage.ring.used b) is ∙ must_used d m s on b must;
      listed = λ b bad unused. s.listed b bad (sym (ap (λ (x : System). set.contains x.state.storage.ring.used b) is) ∙ unused);
    }

    pub noted_system : IsSystem d n
    noted_system = kept_system d d m n s on noted_keeps (subst (λ (o : Option Pass). IfSome o (IsRunning d n)) (sym (ap (λ (x : System). x.pass) is)) tt)

    still_used : (b : ℕ) → set.contains m.state.storage.ring.used b ≡ true → set.contains n.state.storage.ring.used b ≡ true
    still_used b used = ap (λ (x : System). set.contains x.state.storage.ring.used b) is ∙ used

    -- the marking that is taken up goes on
    pub taken_up : (p : Pass) → GoesOnFrom m p n.state.storage.ring.note → (m.pass ≡ None → (p.blocks ≡ m.state.storage.ring.blocks) × ((f : Blocks) → IsPass f p))
        → (m.pass ≡ None → ((b : ℕ) → Contains p.order b → Contains p.roots b) × (p.bodies ≡ set.empty)) → IsRunning d n p
    taken_up p (inl (was, note)) begun first = kept_running d d m n s on noted_keeps p still_used note (subst (λ (o : Option Pass). IfSome o (IsRunning d m)) was (s.passing on))
    taken_up p (inr (none, roots, next, note)) begun first =
        let own = begun none in
        let as_all : (b : ℕ) → Reached (node_of d) p.roots b → Reached (node_of d) (working_roots m.state ++ m.record_roots.items) b = λ b reached. subst (λ (l : List ℕ). Reached (node_of d) l b) roots reached in
        record {
          blocks = own.0 ∙ s.mounted.ring_blocks;
          known = known_of_new p n.state.storage.ring.note none (inr (none, roots, next, note)) own.1 (first none);
          held = λ b reached. still_used b (must_used d m s on b (reached_must b (as_all b reached)));
          nodes = λ b reached. trees_hold_nodes (block_bytes d.geometry - body_header) (node_of d) (working_roots m.state ++ m.record_roots.items) must_have_trees b (as_all b reached);
          taken = λ b must apart. absurd (apart (subst (λ (l : List ℕ). Reached (node_of d) l b) (sym roots) (must_reach b (still_must d d m n s on noted_keeps b must))));
        }

-- ---- a step of it

-- a system with another storage, and this marking
abbrev pub with_storage : System → Storage → Option Pass → System
with_storage m st pass = record m { state = record m.state { storage = st }; pass = pass }

module _ (d e : Device) (m : System) (st : Storage) (s : IsSystem d m) (on : m.state.is_off ≡ false) (l : HasLooked d m.state.storage e st) where
  pub looked_keeps : (pass : Option Pass) → Keeps d e m (with_storage m st pass)
  looked_keeps pass = record {
    reads = l.untouched.device;
    history = refl;
    group = refl;
    bodies = refl;
    sized = refl;
    prepared = λ b has unused. (has, sym (ap (λ (r : Ring). set.contains r.used b) l.untouched.ring) ∙ unused);
    rest = refl;
    is_on = on;
    bad = l.untouched.bad;
    blocks = ap (λ (r : Ring). r.blocks) l.untouched.ring;
    last = ap (λ (r : Ring). r.last) l.untouched.ring;
    takes = ap (λ (r : Ring). r.takes) l.untouched.ring;
    fits = l.fits;
    anchors = refl;
    record_roots = refl;
    used = λ b must. ap (λ (r : Ring). set.contains r.used b) l.untouched.ring ∙ must_used d m s on b must;
    listed = λ b bad unused. s.listed b bad (sym (ap (λ (r : Ring). set.contains r.used b) l.untouched.ring) ∙ unused);
  }

  -- nothing goes on
  pub looked_system : m.pass ≡ None → IsSystem e (with_storage m st m.pass)
  looked_system none = kept_system d e m (with_storage m st m.pass) s on (looked_keeps m.pass) (subst (λ (o : Option Pass). IfSome o (IsRunning e (with_storage m st m.pass))) (sym none) tt)

  -- the marking goes on
  pub going_system : (p q : Pass) → Advances p q → Knows (block_bytes d.geometry) (node_of d) q → IsRunning d m p → IsSystem e (with_storage m st (Some q))
  going_system p q goes known running =
      let n = with_storage m st (Some q) in
      let keeps = looked_keeps (Some q) in
      kept_system d e m n s on keeps
      (advanced d e m n s on keeps p q goes known
      (kept_running d e m n s on keeps p (λ b used. ap (λ (r : Ring). set.contains r.used b) l.untouched.ring ∙ used) (ap (λ (r : Ring). r.note) l.untouched.ring) running))

  -- no block that its roots reach lacks its node
  pub not_damaged : (p : Pass) (result : Result Bool Fault) → (IsPass (node_of d) p → IsErrOf result Damaged → (b : ℕ) × Reached (node_of d) p.roots b × (node_of d b ≡ None)) → IsRunning d m p → IsErrOf result Damaged → ⊥
  not_damaged p result damaged running is = is_marking d m p running (λ pass. let (b, reached, none) = damaged pass is in running.nodes b reached none)

  -- ---- it ends

  module _ (p q : Pass) (marks : BlockSet) (running : IsRunning d m p) (goes : Advances p q) (on_with : IsPass (node_of d) p → IsPass (node_of d) q)
      (exact : (f : Blocks) → IsPass f q → (b : ℕ) → (set.contains marks.members b ≡ true) ↔ Reached f q.roots b) where
    marked : IsPass (node_of d) p → (b : ℕ) → (set.contains marks.members b ≡ true) ↔ Reached (node_of d) p.roots b
    marked pass b = subst (λ (l : List ℕ). (set.contains marks.members b ≡ true) ↔ Reached (node_of d) l b) goes.roots (exact (node_of d) (on_with pass) b)

    pub all_marked : (b : ℕ) → Reached (node_of d) p.roots b → set.contains marks.members b ≡ true
    all_marked b reached = by (set.contains marks.members b) refl
      where
        by : (x : Bool) → set.contains marks.members b ≡ x → set.contains marks.members b ≡ true
        by true is = is
        by false is = absurd (is_marking d m p running (λ pass. both_ways (set.contains marks.members b) is ((marked pass b).1 reached)))

    pub only_marked : (b : ℕ) → (Reached (node_of d) p.roots b → ⊥) → set.contains marks.members b ≡ false
    only_marked b apart = by (set.contains marks.members b) refl
      where
        by : (x : Bool) → set.contains marks.members b ≡ x → set.contains marks.members b ≡ false
        by false is = is
        by true is = absurd (is_marking d m p running (λ pass. apart ((marked pass b).0 is)))

    -- the marked blocks, and those that were taken since, are used, and of the others no node is kept in memory
    abbrev marked_storage : Storage
    marked_storage = marked_in st marks

    abbrev installed : Storage → BlockSet → System
    installed u prepared = record (with_storage m u m.pass) { prepared = prepared }

    -- and none of those that were used is prepared
    abbrev unused_prepared : BlockSet
    unused_prepared = record m.prepared { members = set.difference m.prepared.members st.ring.used }

    only_unused : (b : ℕ) → set.contains unused_prepared.members b ≡ true → (set.contains m.prepared.members b ≡ true) × (set.contains m.state.storage.ring.used b ≡ false)
    only_unused b has = by (set.contains m.prepared.members b) refl (set.contains st.ring.used b) refl (sym (set.contains-difference nat_cmp_total m.prepared.members st.ring.used b) ∙ has)
      where
        by : (x : Bool) → set.contains m.prepared.members b ≡ x → (y : Bool) → set.contains st.ring.used b ≡ y → (set.contains m.prepared.members b && not (set.contains st.ring.used b)) ≡ true
            → (set.contains m.prepared.members b ≡ true) × (set.contains m.state.storage.ring.used b ≡ false)
        by true is false unused both = (is, sym (ap (λ (r : Ring). set.contains r.used b) l.untouched.ring) ∙ unused)
        by true is true used both = absurd (true≢false (sym both ∙ (λ i. is i && not (used i))))
        by false is y used both = absurd (true≢false (sym both ∙ ap (λ (z : Bool). z && not (set.contains st.ring.used b)) is))

    union_left : (a b : set.FinSet nat_cmp) (x : ℕ) → set.contains a x ≡ true → set.contains (set.union a b) x ≡ true
    union_left a b x is = set.contains-union nat_cmp_total a b x ∙ ap (λ (y : Bool). y || set.contains b x) is

    union_right : (a b : set.FinSet nat_cmp) (x : ℕ) → set.contains b x ≡ true → set.contains (set.union a b) x ≡ true
    union_right a b x is = set.contains-union nat_cmp_total a b x ∙ by (set.contains a x) (set.contains b x) is
      where
        by : (y z : Bool) → z ≡ true → (y || z) ≡ true
        by true z is = refl
        by false z is = is

    same_note : st.ring.note ≡ m.state.storage.ring.note
    same_note = ap (λ (r : Ring). r.note) l.untouched.ring

    must_install : (b : ℕ) → MustStay d m b → set.contains (set.union marks.members st.ring.note) b ≡ true
    must_install b must = by (set.contains marks.members b) refl
      where
        by : (x : Bool) → set.contains marks.members b ≡ x → set.contains (set.union marks.members st.ring.note) b ≡ true
        by true is = union_left marks.members st.ring.note b is
        by false is =
            union_right marks.members st.ring.note b
            (ap (λ (x : set.FinSet nat_cmp). set.contains x b) same_note ∙ running.taken b must (λ reached. both_ways (set.contains marks.members b) is (all_marked b reached)))

    installed_keeps : AreDataBlocks st.ring.blocks st.ring.used → Keeps d e m (installed marked_storage unused_prepared)
    installed_keeps blocks =
        let k = looked_keeps m.pass in
        record {
          reads = k.reads;
          history = refl;
          group = refl;
          bodies = refl;
          sized = refl;
          prepared = λ b has unused. only_unused b has;
          rest = refl;
          is_on = on;
          bad = k.bad;
          blocks = k.blocks;
          last = k.last;
          takes = k.takes;
          fits = still_on d m.state.storage e st e marked_storage k.fits (with_marks e st marks);
          anchors = refl;
          record_roots = refl;
          used = must_install;
          listed = λ b bad unused. by b (set.contains m.state.storage.ring.used b) refl bad;
        }
      where
        by : (b : ℕ) (x : Bool) → set.contains m.state.storage.ring.used b ≡ x → set.contains m.state.storage.bad b ≡ true → b < d.geometry.blocks
        by b false unused bad = s.listed b bad unused
        by b true used bad =
            let own = blocks b (ap (λ (r : Ring). set.contains r.used b) l.untouched.ring ∙ used) in
            let same : st.ring.blocks ≡ d.geometry.blocks = ap (λ (r : Ring). r.blocks) l.untouched.ring ∙ s.mounted.ring_blocks in
            omega (arith, own.1, same)

    pub ended_system : (u : Storage) (prepared : BlockSet) → u ≡ marked_storage → prepared ≡ unused_prepared → AreDataBlocks st.ring.blocks st.ring.used → m.pass ≡ None → IsSystem e (installed u prepared)
    ended_system u prepared is left blocks none =
        let n = installed marked_storage unused_prepared in
        subst (λ (x : Storage × BlockSet). IsSystem e (installed x.0 x.1)) (λ i. (sym is i, sym left i))
        (kept_system d e m n s on (installed_keeps blocks) (subst (λ (o : Option Pass). IfSome o (IsRunning e n)) (sym none) tt))

    pub ended_stays : (u : Storage) (prepared : BlockSet) → u ≡ marked_storage → prepared ≡ unused_prepared → AreDataBlocks st.ring.blocks st.ring.used → Stays d m e (installed u prepared)
    ended_stays u prepared is left blocks =
        subst (λ (x : Storage × BlockSet). Stays d m e (installed x.0 x.1)) (λ i. (sym is i, sym left i)) (kept_stays d e m (installed marked_storage unused_prepared) s on (installed_keeps blocks))

    others_go : (b : ℕ) → (Reached (node_of d) p.roots b → ⊥) → set.contains st.ring.note b ≡ false → set.contains (set.union marks.members st.ring.note) b ≡ false
    others_go b apart unnoted = set.contains-union nat_cmp_total marks.members st.ring.note b ∙ ap (λ (y : Bool). y || set.contains st.ring.note b) (only_marked b apart) ∙ unnoted

    pub ends : (old : System) (budget : ℕ) (u : Storage) (prepared : BlockSet) → u ≡ marked_storage → GoesOnFrom old p m.state.storage.ring.note → (q.next ≤ p.next + budget) × IsFinished q → m.pass ≡ None → EndsPass d old budget (installed u prepared)
    ends old budget u prepared is from done none = subst (λ (x : Storage). EndsPass d old budget (installed x prepared)) (sym is) (record {
      from = p;
      to = q;
      was = subst (λ (x : set.FinSet nat_cmp). GoesOnFrom old p x) (sym same_note) from;
      is = none;
      on = goes;
      next = done.0;
      all = done.1;
      marking = λ none_is. is_marking d m p running (λ pass. none_is (on_with pass));
      reached = λ b reached. union_left marks.members st.ring.note b (all_marked b reached);
      taken = λ b noted. union_right marks.members st.ring.note b noted;
      only = others_go;
    })

-- what a step asked, told of the same devices
abbrev pub HasAskedFor : Device → Pass → ℕ → Device → Type 0
HasAskedFor d p budget e = (e.operations ≤ d.operations + budget * d.geometry.pages) × (IsPass (node_of d) p → AsksForRest d p e)

pub asked_alike : (d d' e e' : Device) (p : Pass) (budget : ℕ) → d ≡ d' → e ≡ e' → HasAskedFor d p budget e → HasAskedFor d' p budget e'
asked_alike d d' e e' p budget same same' asked = subst (λ (x : Device). HasAskedFor d' p budget x) same' (subst (λ (x : Device). HasAskedFor x p budget e) same asked)

-- why a step is refused: never since a block lacks its node
pub read_cause : (d e : Device) (s t u v : Storage) (fault : Fault) → (fault ≡ Damaged → ⊥) → (fault ≢ Damaged → ReadCause (seen_of d s) fault (seen_of e t)) → ReadCause (seen_of d u) fault (seen_of e v)
read_cause d e s t u v ReadFailed sound why = why sound
read_cause d e s t u v PowerCut sound why = why sound
read_cause d e s t u v NoMemory sound why = tt
read_cause d e s t u v Damaged sound why = absurd (sound refl)
read_cause d e s t u v _ sound why = absurd (why sound)

-- ---- all of it

-- a marking was taken up of a system, and a step of it was taken
pub record IsStepped (d e : Device) (m n : System) (p q : Pass) (st : Storage) : Type 0 where
  pub system : IsSystem d m
  pub on : m.state.is_off ≡ false
  pub noted : n ≡ with_note m n.state.storage.ring.note
  pub from : GoesOnFrom m p n.state.storage.ring.note
  pub begun : m.pass ≡ None → (p.blocks ≡ m.state.storage.ring.blocks) × ((f : Blocks) → IsPass f p)
  pub first_of : m.pass ≡ None → ((b : ℕ) → Contains p.order b → Contains p.roots b) × (p.bodies ≡ set.empty)
  pub goes : Advances p q
  pub looked : HasLooked d n.state.storage e st

pub is_stepped : (d e : Device) (m n : System) (p q : Pass) (st : Storage) → IsSystem d m → m.state.is_off ≡ false → n ≡ with_note m n.state.storage.ring.note → GoesOnFrom m p n.state.storage.ring.note
    → (m.pass ≡ None → (p.blocks ≡ m.state.storage.ring.blocks) × ((f : Blocks) → IsPass f p)) → (m.pass ≡ None → ((b : ℕ) → Contains p.order b → Contains p.roots b) × (p.bodies ≡ set.empty))
    → Advances p q → HasLooked d n.state.storage e st → IsStepped d e m n p q st
is_stepped d e m n p q st system on noted from begun first_of goes looked = record { system = system; on = on; noted = noted; from = from; begun = begun; first_of = first_of; goes = goes; looked = looked }

-- no marking was taken up
pub untaken_asks : (d : Device) (m : System) (budget : ℕ) → IsSystem d m → m.state.is_off ≡ false → AsksToStep d (marking_of m) budget d
untaken_asks d m budget s on = asks_still d m budget (by m.pass (s.passing on))
  where
    by : (o : Option Pass) → IfSome o (IsRunning d m) → IfSome o (λ p. (IsPass (node_of d) p → ⊥) → ⊥)
    by None _ = tt
    by (Some p) r = is_marking d m p r

module _ (d e : Device) (m n : System) (p q : Pass) (st : Storage) (t : IsStepped d e m n p q st) where
  first : IsSystem d n
  first = noted_system d m t.system t.on n t.noted

  first_stays : Stays d m d n
  first_stays = kept_stays d d m n t.system t.on (noted_keeps d m t.system t.on n t.noted)

  pub step_is_on : n.state.is_off ≡ false
  step_is_on = ap (λ (x : System). x.state.is_off) t.noted ∙ t.on

  none : n.pass ≡ None
  none = ap (λ (x : System). x.pass) t.noted

  running : IsRunning d n p
  running = taken_up d m t.system t.on n t.noted p t.from t.begun t.first_of

  pub stepped_stays : (pass : Option Pass) → Stays d m e (with_storage n st pass)
  stepped_stays pass = stays_on d d e m n (with_storage n st pass) first_stays (kept_stays d e n (with_storage n st pass) first step_is_on (looked_keeps d e n st first step_is_on t.looked pass))

  pub stepped_asks : (budget : ℕ) → e.operations ≤ d.operations + budget * d.geometry.pages → (IsPass (node_of d) p → AsksForRest d p e) → AsksToStep d (marking_of m) budget e
  stepped_asks budget few rest = asks_on d e m p n.state.storage.ring.note budget t.from (is_marking d n p running) few rest

  -- it was refused
  pub refused_system : IsSystem e (with_storage n st n.pass)
  refused_system = looked_system d e n st first step_is_on t.looked none

  abbrev failed : Fault → Result Bool Fault
  failed fault = Err fault

  pub refused_ends : (fault : Fault) (budget : ℕ) → (IsPass (node_of d) p → IsErrOf (failed fault) Damaged → (b : ℕ) × Reached (node_of d) p.roots b × (node_of d b ≡ None))
      → (fault ≢ Damaged → ReadCause (seen_of d n.state.storage) fault (seen_of e st)) → StepEnds d m budget (Err fault) e (with_storage n st n.pass)
  refused_ends fault budget damaged why = (
    none,
    ap (λ (r : Ring). r.used) t.looked.untouched.ring ∙ ap (λ (x : System). x.state.storage.ring.used) t.noted,
    read_cause d e n.state.storage st m.state.storage st fault (λ is. not_damaged d e n st first step_is_on t.looked p (Err fault) damaged running (ap Err is)) why,
  )

  -- it goes on
  pub goes_ends : (budget : ℕ) → (q.next ≡ p.next + budget) × (q.next < length q.order) × (budget < 2 ^ 64 - 1) → StepEnds d m budget (Ok false) e (with_storage n st (Some q))
  goes_ends budget read = record {
    from = p;
    to = q;
    was = subst (λ (x : set.FinSet nat_cmp). GoesOnFrom m p x) (sym (ap (λ (r : Ring). r.note) t.looked.untouched.ring)) t.from;
    is = refl;
    on = t.goes;
    next = read.0;
    left = read.1;
    few = read.2;
    used = ap (λ (r : Ring). r.used) t.looked.untouched.ring ∙ ap (λ (x : System). x.state.storage.ring.used) t.noted;
  }

  pub goes_system : Knows (block_bytes d.geometry) (node_of d) q → IsSystem e (with_storage n st (Some q))
  goes_system known = going_system d e n st first step_is_on t.looked p q t.goes known running

  -- it ends
  module _ (marks : BlockSet) (u : Storage) (prepared : BlockSet) (is : u ≡ marked_in st marks) (forgets : prepared ≡ record n.prepared { members = set.difference n.prepared.members st.ring.used }) (blocks : AreDataBlocks st.ring.blocks st.ring.used)
      (on_with : IsPass (node_of d) p → IsPass (node_of d) q) (exact : (f : Blocks) → IsPass f q → (b : ℕ) → (set.contains marks.members b ≡ true) ↔ Reached f q.roots b) where
    abbrev last : System
    last = record (with_storage n u n.pass) { prepared = prepared }

    pub all_system : IsSystem e last
    all_system = ended_system d e n st first step_is_on t.looked p q marks running t.goes on_with exact u prepared is forgets blocks none

    pub all_stays : Stays d m e last
    all_stays = stays_on d d e m n last first_stays (ended_stays d e n st first step_is_on t.looked p q marks running t.goes on_with exact u prepared is forgets blocks)

    pub all_ends : (budget : ℕ) → (q.next ≤ p.next + budget) × IsFinished q → EndsPass d m budget last
    all_ends budget done = ends d e n st first step_is_on t.looked p q marks running t.goes on_with exact m budget u prepared is t.from done none

-- ---- whether power went

abbrev pub with_power : System → Bool → System
with_power m off = record m { state = record m.state { is_off = off } }

pub power_system : (e : Device) (n : System) (off : Bool) → IsSystem e n → n.state.is_off ≡ false → (off ≡ true → e.powered ≡ false) → IsSystem e (with_power n off)
power_system e n off s on is_off = record {
  mounted = record {
    lawful = s.mounted.lawful;
    ring_blocks = s.mounted.ring_blocks;
    fits = s.mounted.fits;
    roots = s.mounted.roots;
    machine = s.mounted.machine;
    off = is_off;
  };
  bodies = s.bodies;
  prepared = s.prepared;
  saved = λ _. s.saved on;
  stands = λ _. s.stands on;
  roots = λ _. s.roots on;
  passing = λ _. by n.pass (s.passing on);
  known = λ _. s.known on;
  listed = s.listed;
}
  where
    by : (o : Option Pass) → IfSome o (IsRunning e n) → IfSome o (IsRunning e (with_power n off))
    by None _ = tt
    by (Some p) r = record { blocks = r.blocks; known = r.known; held = r.held; nodes = r.nodes; taken = r.taken }

module _ (d e : Device) (m n : System) (budget : ℕ) (answer : Result Bool Fault) (on : m.state.is_off ≡ false) (system : IsSystem e n) (still_on : n.state.is_off ≡ false) (stays : Stays d m e n) (ends : StepEnds d m budget answer e n)
    (asks : AsksToStep d (marking_of m) budget e) where
  abbrev left : System
  left = with_power n (n.state.is_off || is_cut_answer answer)

  is_left : IsSystem e left
  is_left = power_system e n (n.state.is_off || is_cut_answer answer) system still_on (λ off. by answer (sym (ap (λ (b : Bool). b || is_cut_answer answer) still_on) ∙ off) ends)
    where
      by : (r : Result Bool Fault) → is_cut_answer r ≡ true → StepEnds d m budget r e n → e.powered ≡ false
      by (Ok x) cut ends = absurd (true≢false (sym cut))
      by (Err PowerCut) cut ends = ends.2
      by (Err _) cut ends = absurd (true≢false (sym cut))

  still_ends : (r : Result Bool Fault) → StepEnds d m budget r e n → StepEnds d m budget r e left
  still_ends (Ok false) o = record { from = o.from; to = o.to; was = o.was; is = o.is; on = o.on; next = o.next; left = o.left; few = o.few; used = o.used }
  still_ends (Ok true) o = record { from = o.from; to = o.to; was = o.was; is = o.is; on = o.on; next = o.next; all = o.all; marking = o.marking; reached = o.reached; taken = o.taken; only = o.only }
  still_ends (Err fault) o = o

  is_reclaimed : Reclaims d m budget answer e left
  is_reclaimed = record {
    stays = record { reads = stays.reads; history = stays.history; group = stays.group; machine = stays.machine; bad = stays.bad; last = stays.last; takes = stays.takes; anchors = stays.anchors; room = stays.room; prepared = stays.prepared };
    ends = λ _. still_ends answer ends;
    asks = λ _. asks;
    off = ap (λ (b : Bool). b || is_cut_answer answer) (still_on ∙ sym on);
    stopped = λ off. absurd (both_ways m.state.is_off on off);
  }

  pub reclaimed : (t : State) (result : Result Bool Fault) → t ≡ left.state → result ≡ answer → IsSystem e (record n { state = t }) × Reclaims d m budget result e (record n { state = t })
  reclaimed t result is same =
      subst (λ (r : Result Bool Fault). IsSystem e (record n { state = t }) × Reclaims d m budget r e (record n { state = t })) (sym same)
      (subst (λ (u : State). IsSystem e (record n { state = u }) × Reclaims d m budget answer e (record n { state = u })) (sym is) (is_left, is_reclaimed))

-- why a read of nodes is refused, where there are nodes
pub store_cause : {F : Type 0} (device : F → Device) (s t : Store F) (fault : Fault) → IsReadFault fault → (fault ≢ Damaged → Causes device s t fault) → fault ≢ Damaged
    → ReadCause (seen_of (device s.flash.now) s.storage.now) fault (seen_of (device t.flash.now) t.storage.now)
store_cause device s t ReadFailed is why apart = (why apart).reason
store_cause device s t PowerCut is why apart = (why apart).reason
store_cause device s t NoMemory is why apart = tt
store_cause device s t Damaged is why apart = absurd (apart refl)
store_cause device s t _ is why apart = absurd (true≢false (sym is))
