-- A system after a commit: it is mounted as before, and the newest record is the working history, or what it was.
use Rattle.std.proofs.Common.{◌≡◌, ◌≢◌, ◌⊎◌, inl, inr, ℕ, ◌+◌, ◌-◌, ◌<◌, Bool, true, false, ◌||◌, Option, Some, None, Result, Ok, Err, map, refl, sym, ap, subst, ◌∙◌, arith}
use Rattle.std.proofs.lemmas.Bool.{true≢false}
use Rattle.std.specs.Prelude.{is_some, IfSome, Contains, ◌/◌, vec_len}
use Rattle.std.specs.FinSet as set
use Rattle.std.specs.Ordering.{nat_cmp}
use Rattle.std.specs.Option.{option_map}
use Rattle.std.proofs.lemmas.List.Elements.{Contains-append_cases}
use Rattle.fs_types.specs.declared.fault.Fault.{Fault}
use Rattle.fs_types.specs.declared.fault.Fault.TheVariants.{PowerCut}
use Rattle.fs_types.specs.declared.limits.TheConstants.{ANCHORS}
use Rattle.history_machine.specs.History.{Past, map_roots, map_group}
use Rattle.history_machine.specs.Machine.{IsMachine, machine_with}
use Rattle.flash_model.specs.declared.geometry.Geometry.{Geometry}
use Rattle.flash_model.specs.Device.{Device}
use Rattle.flash_model.specs.Geometry.{IsGeometry, block_bytes}
use Rattle.node_format.specs.Headers.{body_header}
use Rattle.node_store.specs.NodeCache.{NodeCache}
use Rattle.node_store.specs.Caching.{IsTruthful}
use Rattle.node_store.specs.FittingLaws.{still_fits}
use Rattle.record_format.specs.declared.formats.TheConstants.{FORMAT}
use Rattle.record_format.specs.declared.record.Record.{Record}
use Rattle.block_ring.specs.BlockSet.{BlockSet}
use Rattle.nodes.specs.Bodies.{Blocks}
use Rattle.node_store.specs.NodePages.{node_of}
use Rattle.reclaim.specs.Sound.{IsPlain}
use Rattle.anchors.specs.declared.anchors.Anchors.{Anchors}
use Rattle.anchors.specs.declared.best.Found.{Found}
use Rattle.anchors.specs.Parts.{greatest_on}
use Rattle.anchors.specs.Committing.{Commits}
use Rattle.anchors.specs.Reading.{IsEnd}
use Rattle.anchors.specs.Newest.{remembered}
use Rattle.anchors.specs.Remembering.{IsErasedBeside, KnowsNewest, MayCommit}
use Rattle.working_state.specs.Seen.{machine_on}
use Rattle.working_state.specs.Steps.{is_cut_answer}
use Rattle.working_state.specs.Mounted.{IsStanding, IsMounted}
use Rattle.working_state.specs.OpenBodies.{KnowsBodies}
use Rattle.working_state.specs.Roots.{HasRoot}
use Rattle.working_state.specs.declared.known_bodies.KnownBodies.{KnownBodies}
use Rattle.working_state.specs.declared.state.State.{State}
use Rattle.working_state.proofs.KeptBodies.{same_knows}
use Rattle.mounting.specs.Records.{history_of, roots_of, trees_of, knows_plain_only}
use Rattle.mounting.specs.Saved.{saved_on, saved_trees, IsWholeRecord}
use Rattle.system.specs.Commits.{record_on, Saves}
use Rattle.system.specs.Systems.{IsSystem, IsKnown, IsRunning}
use Rattle.system.specs.declared.systems.System.{System}
use Rattle.mounting.proofs.SameNodes.{HasSameData, node_is, same_nodes, same_tree, stands_too}
use Rattle.system.proofs.Committed.{same_saved, IsNewly, newly_saved}
use Rattle.mounting.proofs.PlainRoots.{not_plain}

-- ---- places that are known

pub knows : (d : Device) (bad : set.FinSet nat_cmp) (anchors : Anchors) → IsKnown d bad anchors → KnowsNewest d bad anchors
knows d bad anchors k = on (remembered anchors) refl k.some
  where
    on : (o : Option Found) → remembered anchors ≡ o → is_some o ≡ true → KnowsNewest d bad anchors
    on None is none = absurd (true≢false (sym none))
    on (Some found) is some = record { found = found; here = is; place = k.place ∙ is; end = k.end found is; prepared = k.prepared found is }

same_found : (a b : Found) → Some a ≡ Some b → a ≡ b
same_found a b e = cc

pub known : (d : Device) (bad : set.FinSet nat_cmp) (anchors : Anchors) → KnowsNewest d bad anchors → IsKnown d bad anchors
known d bad anchors k = record {
  some = ap is_some k.here;
  place = k.place ∙ sym k.here;
  end = λ found here. subst (λ (x : Found). set.contains bad (x.page / d.geometry.pages) ≡ false → IsEnd d.geometry d.pages (x.page / d.geometry.pages) d.geometry.pages anchors.end)
      (same_found k.found found (sym k.here ∙ here)) k.end;
  prepared = λ found here. subst (IsErasedBeside d bad anchors) (same_found k.found found (sym k.here ∙ here)) k.prepared;
}

-- where a commit may follow and a place is remembered, it is the newest record's
pub is_newest : (d : Device) (bad : set.FinSet nat_cmp) (anchors : Anchors) → remembered anchors ≢ None → MayCommit d bad anchors → KnowsNewest d bad anchors
is_newest d bad anchors some (inl k) = k
is_newest d bad anchors some (inr k) = absurd (some k.none)

pub not_none : (o : Option Found) → is_some o ≡ true → o ≢ None
not_none None some e = true≢false (sym some)
not_none (Some found) some e = cc

-- ---- the system

module _ {T : Type 0} (d e : Device) (m n : System) (result : Result T Fault) (s : IsSystem d m) (saves : Saves d m result e n) where
  pub same : HasSameData d e
  same = record { lawful = s.mounted.lawful; geometry = saves.only_anchors.geometry; data_pages = saves.only_anchors.data_pages }

  pub same_history : n.state.history ≡ m.state.history
  same_history = ap (λ (t : State). t.history) saves.state

  same_ring : n.state.storage.ring ≡ m.state.storage.ring
  same_ring = ap (λ (t : State). t.storage.ring) saves.state

  -- the machine is the same
  pub same_machine : machine_on e n.state ≡ machine_on d m.state
  same_machine = λ i. machine_with (map_roots (same_tree d e same i) (same_history i)) (map_group (same_tree d e same i) (saves.state i).group) (saves.state i).files

  standing : (root : ℕ) → IsStanding d m.state.storage.ring root → IsStanding e n.state.storage.ring root
  standing root has = subst (λ ring. IsStanding e ring root) (sym same_ring) (stands_too d e same m.state.storage.ring root has)

  off_was : n.state.is_off ≡ false → (m.state.is_off ≡ false) × (is_cut_answer result ≡ false)
  off_was on = parts m.state.is_off (is_cut_answer result) (sym (ap (λ (t : State). t.is_off) saves.state) ∙ on)
    where
      parts : (a b : Bool) → (a || b) ≡ false → (a ≡ false) × (b ≡ false)
      parts true b x = absurd (true≢false x)
      parts false b x = (refl, x)

  pub is_mounted : (n.state.is_off ≡ true → e.powered ≡ false) → IsMounted e n.state
  is_mounted off = record {
    lawful = subst IsGeometry (sym same.geometry) s.mounted.lawful;
    ring_blocks = ap (λ (t : State). t.storage.ring.blocks) saves.state ∙ s.mounted.ring_blocks ∙ sym (ap (λ (g : Geometry). g.blocks) same.geometry);
    fits =
        let cache : n.state.storage.cache ≡ m.state.storage.cache = ap (λ (t : State). t.storage.cache) saves.state in
        (still_fits d m.state.storage e n.state.storage same.geometry (ap (λ (t : State). vec_len t.storage.page) saves.state) (ap (λ (k : NodeCache). k.room) cache)
        (λ fits. subst (IsTruthful e) (sym cache) (record { each = λ b bytes is. node_is d e same b ∙ fits.truthful.each b bytes is }))).fits s.mounted.fits;
    roots = λ root has. standing root (s.mounted.roots root (subst (λ (t : State). HasRoot t root) saves.state has));
    machine = subst IsMachine (sym same_machine) s.mounted.machine;
    off = off;
  }

  -- the newest record, where power did not go
  abbrev pub SavedAfter : Type 0
  SavedAfter = (saved_on e ≡ saved_on d) ⊎ IsNewly e m.state.history

  pub saved_after : SavedAfter
  saved_after = on result saves.commits
    where
      on : (r : Result T Fault) → Commits d.pages e.pages (record_on d m.state) (greatest_on d.geometry d.pages + 1) n.state.storage.bad r → SavedAfter
      on (Ok x) c = inr (newly_saved d e m.state _ n.state.storage.bad same.geometry c)
      on (Err PowerCut) (inl keeps) = inl (same_saved d e same.geometry keeps.newest)
      on (Err PowerCut) (inr c) = inr (newly_saved d e m.state _ n.state.storage.bad same.geometry c)
      on (Err _) keeps = inl (same_saved d e same.geometry keeps.newest)

  -- its versions and checkpoints stand
  pub stands_after : SavedAfter → m.state.is_off ≡ false → (r : Record) → saved_on e ≡ Some r → (root : ℕ) → Contains (roots_of (history_of r)) root → IsStanding e n.state.storage.ring root
  stands_after (inl was) on r is root has = standing root (s.stands on r (sym was ∙ is) root has)
  stands_after (inr newly) on r is root has =
      standing root (s.mounted.roots root (of_history (subst (λ (h : Past ℕ). Contains (roots_of h) root) newly.history
      (subst (λ (x : Record). Contains (roots_of (history_of x)) root) (same_record r newly.newest (sym is ∙ newly.saved)) has))))
    where
      same_record : (a b : Record) → Some a ≡ Some b → a ≡ b
      same_record a b x = cc

      of_history : Contains (roots_of m.state.history) root → HasRoot m.state root
      of_history there = elim (Contains-append_cases (map (λ v. v.root) m.state.history.versions) (map (λ x. x.1) m.state.history.checkpoints) root there) [
        | inl version ↦ inl version
        | inr checkpoint ↦ inr (inl checkpoint)
      ]

  -- and each directory in them is of its format
  plain_after : SavedAfter → IsWholeRecord d → (r : Record) → saved_on e ≡ Some r → knows_plain_only r ≡ true → IsPlain (node_of e) (roots_of (history_of r))
  plain_after (inl was) whole r is plain = subst (λ (f : Blocks). IsPlain f (roots_of (history_of r))) (sym (same_nodes d e same)) ((whole r (sym was ∙ is)).1 plain)
  plain_after (inr newly) whole r is plain = not_plain r (subst (λ (x : Record). x.format ≡ FORMAT) (one_record newly.newest r (sym newly.saved ∙ is)) newly.written) plain
    where
      one_record : (a b : Record) → Some a ≡ Some b → a ≡ b
      one_record a b x = cc

  pub whole_after : SavedAfter → m.state.is_off ≡ false → IsWholeRecord d → IsWholeRecord e
  whole_after after on whole r is = (λ root has. (stands_after after on r is root has).rooted, plain_after after whole r is)

  is_saved : SavedAfter → m.state.is_off ≡ false → is_some (saved_on e) ≡ true
  is_saved (inl was) on = ap is_some was ∙ s.saved on
  is_saved (inr newly) on = ap is_some newly.saved

  -- a block of the list was there, or is an anchor
  listed_after : (b : ℕ) → set.contains n.state.storage.bad b ≡ true → set.contains n.state.storage.ring.used b ≡ false → b < e.geometry.blocks
  listed_after b bad unused = subst (λ (g : Geometry). b < g.blocks) (sym same.geometry) (on (set.contains m.state.storage.bad b) refl)
    where
      on : (x : Bool) → set.contains m.state.storage.bad b ≡ x → b < d.geometry.blocks
      on true was = s.listed b was (subst (λ (t : State). set.contains t.storage.ring.used b ≡ false) saves.state unused)
      on false new = let anchor : b < ANCHORS = saves.only_anchors.bad_anchor b bad new in let sizes = s.mounted.lawful in omega arith

  pub is_system : (n.state.is_off ≡ true → e.powered ≡ false) → (is_cut_answer result ≡ false → KnowsNewest e n.state.storage.bad n.anchors)
      → (is_cut_answer result ≡ false → (r : Record) → saved_on e ≡ Some r → n.record_roots.items ≡ roots_of (history_of r))
      → (m.state.is_off ≡ false → IfSome n.pass (IsRunning e n)) → n.bodies ≡ m.bodies → n.prepared ≡ m.prepared → IsSystem e n
  is_system off place roots passing bodies prepared = record {
    mounted = is_mounted off;
    bodies = subst (λ (known : KnownBodies). KnowsBodies e n.state known) (sym bodies)
        (same_knows d e m.state n.state m.bodies (same_nodes d e same) (ap (λ (g : Geometry). block_bytes g - body_header) same.geometry) same_history (ap (λ (t : State). t.group) saves.state) (ap (λ (t : State). t.files) saves.state) s.bodies);
    prepared = ap (λ (p : BlockSet). p.blocks) prepared ∙ s.prepared ∙ ap (λ (t : State). t.storage.ring.blocks) (sym saves.state);
    saved = λ on. is_saved saved_after (off_was on).0;
    stands = λ on. stands_after saved_after (off_was on).0;
    roots = λ on. roots (off_was on).1;
    passing = λ on. passing (off_was on).0;
    known = λ on. known e n.state.storage.bad n.anchors (place (off_was on).1);
    listed = listed_after;
  }

  -- the trees of the newest record
  pub newly_trees : IsNewly e m.state.history → saved_trees e ≡ Some (machine_on d m.state).history
  newly_trees newly = ap (option_map (trees_of e)) newly.saved ∙ (λ i. Some (map_roots (same_tree d e same i) (newly.history i)))

  pub trees_after : SavedAfter → m.state.is_off ≡ false → (saved_trees e ≡ saved_trees d) ⊎ (saved_trees e ≡ Some (machine_on d m.state).history)
  trees_after (inl was) on = inl (λ i. option_map (λ r. map_roots (same_tree d e same i) (history_of r)) (was i))
  trees_after (inr newly) on = inr (newly_trees newly)
