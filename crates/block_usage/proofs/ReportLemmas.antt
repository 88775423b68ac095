-- Which blocks stand apart, what views show, and why nothing is told.
use Rattle.std.proofs.Common.{◌≡◌, ◌∙◌, ◌↔◌, ◌⊎◌, inl, inr, ℕ, ◌+◌, ◌-◌, ◌<◌, ◌≤◌, Bool, true, false, ◌||◌, Option, Some, None, List, sym, ap, subst, arith}
use Rattle.std.proofs.lemmas.Bool.{cases_order, ne_eqb, true≢false}
use Rattle.std.proofs.lemmas.Cmp.{nat_cmp_total}
use Rattle.std.specs.Cmp.{unsigned_tied}
use Rattle.std.specs.FinSet as set
use Rattle.std.specs.Ordering.{nat_cmp}
use Rattle.std.specs.Option.{option_or}
use Rattle.fs_types.specs.Names.{Path}
use Rattle.fs_types.specs.declared.call.Call.{Call}
use Rattle.fs_types.specs.declared.call.View.{View}
use Rattle.fs_types.specs.declared.fault.Fault.{Fault}
use Rattle.fs_types.specs.declared.fault.Fault.TheVariants.{ReadFailed, PowerCut, NoMemory}
use Rattle.fs_types.specs.declared.limits.TheConstants.{ANCHORS}
use Rattle.flash_model.specs.Device.{Device}
use Rattle.flash_model.specs.Geometry.{IsGeometry, block_bytes}
use Rattle.flash_model.specs.declared.geometry.Geometry.{Geometry}
use Rattle.flash_model.specs.Reading.{OnlyReads}
use Rattle.history_machine.specs.History.{seen_root, view_refusal}
use Rattle.history_machine.specs.HistoryMaps.{view_refusal-map}
use Rattle.history_machine.specs.Machine.{found_refusal, refusal, view_tree}
use Rattle.block_ring.proofs.RingOrder.{contains-insert_same}
use Rattle.block_ring.specs.Ring.{IsDataBlock}
use Rattle.nodes.specs.Bodies.{Blocks}
use Rattle.nodes.specs.Reached.{Reached}
use Rattle.nodes.specs.Trees.{IsRoot}
use Rattle.directory.specs.declared.lookups.Found.TheVariants as found
use Rattle.node_store.specs.NodePages.{node_of}
use Rattle.node_store.specs.ReadingLaws.{OnlyReads_nodes}
use Rattle.node_store.specs.Stores.{Causes}
use Rattle.node_store.specs.declared.store.Store.{Store}
use Rattle.node_format.specs.Headers.{body_header}
use Rattle.nodes.specs.Faults.{IsLookFault}
use Rattle.reclaim.specs.Verified.{AreRoots}
use Rattle.block_usage.specs.Maps.{IsReady, ReadsCause}
use Rattle.block_usage.proofs.MapLemmas.{cause_later}
use Rattle.system.specs.Mounts.{IsMountOf}
use Rattle.system.specs.declared.systems.System.{System}
use Rattle.working_state.specs.Moments.{moment}
use Rattle.working_state.specs.Mounted.{IsMounted}
use Rattle.working_state.specs.Seen.{capacity_of, machine_on, tree_on}
use Rattle.working_state.specs.declared.state.State.{State}
use Rattle.working_state.proofs.PathCalls.{found_refuses, refused_tells}
use Rattle.working_state.proofs.Stats.{refuse_nothing, stat_looks}
use Rattle.working_state.proofs.Views.{view_stands}
use Rattle.block_usage.specs.Usages.{IsListAt, IsPathRefused, ReachManyAt}
use Rattle.block_usage.specs.declared.usage_fault.UsageFault.{UsageFault}
use Rattle.block_usage.specs.declared.usage_list.UsageList.{UsageList}
use Rattle.block_usage.specs.OtherRoots.{other_roots}
use Rattle.block_usage.specs.UsageReports.{AreApart, ReportCause, ShowsApart, StateCause, StoredCause, of_usages}
use Rattle.block_usage.proofs.RootLemmas.{others_among}

-- ---- marks

other_kept : (members : set.FinSet nat_cmp) (block b : ℕ) → (b ≡ block → ⊥) → set.contains (set.insert members block) b ≡ set.contains members b
other_kept members block b apart = set.contains-insert nat_cmp_total members block b ∙ ap (λ (t : Bool). t || set.contains members b) (unsigned_tied b block ∙ ne_eqb b block apart)

module _ (old now : set.FinSet nat_cmp) (bad : set.FinSet nat_cmp) (block : ℕ)
    (done : (b : ℕ) → ANCHORS ≤ b → b < block → (set.contains now b ≡ true) ↔ ((set.contains old b ≡ true) ⊎ (set.contains bad b ≡ true)))
    (rest : (b : ℕ) → block ≤ b → set.contains now b ≡ set.contains old b) where
  -- the next block is bad, and is marked
  pub marked_done : set.contains bad block ≡ true → (b : ℕ) → ANCHORS ≤ b → b < block + 1
      → (set.contains (set.insert now block) b ≡ true) ↔ ((set.contains old b ≡ true) ⊎ (set.contains bad b ≡ true))
  marked_done is b low high = by (cases_order b block)
    where
      by : (b ≡ block) ⊎ ((b < block) ⊎ (block < b)) → (set.contains (set.insert now block) b ≡ true) ↔ ((set.contains old b ≡ true) ⊎ (set.contains bad b ≡ true))
      by (inr (inl before)) =
          let same = other_kept now block b (λ e. omega (arith, before, e)) in
          (λ marked. (done b low before).0 (sym same ∙ marked), λ either. same ∙ (done b low before).1 either)
      by (inl here) = (
        λ marked. inr (ap (set.contains bad) here ∙ is),
        λ either. ap (set.contains (set.insert now block)) here ∙ contains-insert_same now block,
      )
      by (inr (inr past)) = absurd (omega (arith, high, past))

  pub marked_rest : (b : ℕ) → block + 1 ≤ b → set.contains (set.insert now block) b ≡ set.contains old b
  marked_rest b past = other_kept now block b (λ e. omega (arith, past, e)) ∙ rest b (omega (arith, past))

  -- it is not bad, and is left as it is
  pub left_done : set.contains bad block ≡ false → (b : ℕ) → ANCHORS ≤ b → b < block + 1 → (set.contains now b ≡ true) ↔ ((set.contains old b ≡ true) ⊎ (set.contains bad b ≡ true))
  left_done is b low high = by (cases_order b block)
    where
      here_only : b ≡ block → (set.contains old b ≡ true) ⊎ (set.contains bad b ≡ true) → set.contains now b ≡ true
      here_only here (inl marked) = rest b (omega (arith, here)) ∙ marked
      here_only here (inr wrong) = absurd (true≢false (sym wrong ∙ ap (set.contains bad) here ∙ is))

      by : (b ≡ block) ⊎ ((b < block) ⊎ (block < b)) → (set.contains now b ≡ true) ↔ ((set.contains old b ≡ true) ⊎ (set.contains bad b ≡ true))
      by (inr (inl before)) = done b low before
      by (inl here) = (λ marked. inl (sym (rest b (omega (arith, here))) ∙ marked), here_only here)
      by (inr (inr past)) = absurd (omega (arith, high, past))

  pub left_rest : (b : ℕ) → block + 1 ≤ b → set.contains now b ≡ set.contains old b
  left_rest b past = rest b (omega (arith, past))

-- what roots reach was marked, and then what is bad
pub marked_apart : (d : Device) (others : List ℕ) (bad looked marked apart : set.FinSet nat_cmp) (blocks : ℕ) → blocks ≡ d.geometry.blocks → looked ≡ bad
    → ((b : ℕ) → (set.contains marked b ≡ true) ↔ Reached (node_of d) others b)
    → ((b : ℕ) → IsDataBlock blocks b → (set.contains apart b ≡ true) ↔ ((set.contains marked b ≡ true) ⊎ (set.contains looked b ≡ true))) → AreApart d others bad apart
marked_apart d others bad looked marked apart blocks size same reached added b ring = (λ is. forth (both.0 is), λ either. both.1 (back either))
  where
    both : (set.contains apart b ≡ true) ↔ ((set.contains marked b ≡ true) ⊎ (set.contains looked b ≡ true))
    both = added b (subst (λ (n : ℕ). IsDataBlock n b) (sym size) ring)

    forth : (set.contains marked b ≡ true) ⊎ (set.contains looked b ≡ true) → Reached (node_of d) others b ⊎ (set.contains bad b ≡ true)
    forth (inl is) = inl ((reached b).0 is)
    forth (inr is) = inr (ap (λ (s : set.FinSet nat_cmp). set.contains s b) (sym same) ∙ is)

    back : Reached (node_of d) others b ⊎ (set.contains bad b ≡ true) → (set.contains marked b ≡ true) ⊎ (set.contains looked b ≡ true)
    back (inl is) = inl ((reached b).1 is)
    back (inr is) = inr (ap (λ (s : set.FinSet nat_cmp). set.contains s b) same ∙ is)

-- ---- roots

-- the roots beside a view have trees
pub others_rooted : (d : Device) (s : State) (view : View) → IsMounted d s → AreRoots (block_bytes d.geometry) (node_of d) (other_roots s.history view)
others_rooted d s view mounted root has = elim (others_among s.history view root has) [
  | inl version ↦ (mounted.roots root (inl version)).rooted
  | inr checkpoint ↦ (mounted.roots root (inr (inl checkpoint))).rooted
]

pub is_ready : (d : Device) (s : State) → IsMounted d s → IsReady d s.storage
is_ready d s mounted = record { lawful = mounted.lawful; ring_blocks = mounted.ring_blocks; fits = mounted.fits }

pub shown_rooted : (d : Device) (s : State) (view : View) (root : ℕ) → IsMounted d s → view_refusal s.history view ≡ None → seen_root s.history s.group view ≡ Some root → IsRoot (capacity_of d) (node_of d) root
shown_rooted d s view root mounted fine shown = (view_stands (moment d s) view root mounted (record { fine = fine; shown = shown })).rooted

-- ---- refusals

-- a look-up that is refused, or finds nothing, is refused as the call that asks what stands there
pub path_refused : (d : Device) (s : State) (view : View) (path : Path) (root : ℕ) (fault : Fault) → IsMounted d s → view_refusal s.history view ≡ None → seen_root s.history s.group view ≡ Some root
    → IsPathRefused (node_of d) root path fault → refusal (machine_on d s) (Call.Stat view path) ≡ Some fault
path_refused d s view path root fault mounted fine shown (inl refused) =
    let looks = stat_looks (moment d s) view path root mounted (record { fine = fine; shown = shown }) in
    looks.by_path ∙ refused_tells (capacity_of d) (node_of d) root path refuse_nothing looks.rooted fault refused
path_refused d s view path root fault mounted fine shown (inr (is_full, missing, is)) =
    found_refuses (moment d s) (Call.Stat view path) root path refuse_nothing (stat_looks (moment d s) view path root mounted (record { fine = fine; shown = shown })) (found.Missing is_full) missing
    ∙ ap (λ (x : Fault). Some x) (sym is)

-- what reading of nodes met
pub stored_cause : {F : Type 0} (device : F → Device) (s t : Store F) (fault : Fault) → IsLookFault fault → Causes device s t fault → ReadsCause (device s.flash.now) (device t.flash.now) fault
stored_cause device s t ReadFailed is cause = cause.reason
stored_cause device s t PowerCut is cause = cause.reason
stored_cause device s t NoMemory is cause = tt
stored_cause device s t _ is cause = absurd (true≢false (sym is))

-- why nothing is told over nodes
abbrev pub NodesCause : Blocks → (Fault → Type 0) → ℕ → Path → set.FinSet nat_cmp → UsageFault → Type 0
NodesCause f Met root path apart (UsageFault.Refused fault) = IsPathRefused f root path fault ⊎ (IsLookFault fault × Met fault)
NodesCause f Met root path apart UsageFault.TooManyBlocks = ReachManyAt f root path apart

-- and over those of a flash
pub listed_cause : (d e : Device) (Met : Fault → Type 0) (root : ℕ) (path : Path) (apart : set.FinSet nat_cmp) (fault : UsageFault) → ((fault : Fault) → IsLookFault fault → Met fault → ReadsCause d e fault)
    → NodesCause (node_of d) Met root path apart fault → StoredCause d root path apart e fault
listed_cause d e Met root path apart (UsageFault.Refused fault) met (inl refused) = inl refused
listed_cause d e Met root path apart (UsageFault.Refused fault) met (inr cause) = inr (met fault cause.0 cause.1)
listed_cause d e Met root path apart UsageFault.TooManyBlocks met many = many

-- a view that is refused is refused as that call
pub view_refused : (d : Device) (s : State) (view : View) (path : Path) (fault : Fault) → view_refusal s.history view ≡ Some fault → refusal (machine_on d s) (Call.Stat view path) ≡ Some fault
view_refused d s view path fault is =
    ap (λ (o : Option Fault). option_or o (found_refusal (view_tree (machine_on d s) view) path refuse_nothing)) (view_refusal-map (tree_on d) s.history view ∙ is)

-- ---- a flash that was only read

pub root_later : (d e : Device) (root : ℕ) → IsGeometry d.geometry → OnlyReads d e → IsRoot (capacity_of d) (node_of d) root → IsRoot (capacity_of e) (node_of e) root
root_later d e root lawful reads is =
    subst (λ (f : Blocks). IsRoot (capacity_of e) f root) (sym (OnlyReads_nodes d e lawful reads)) (subst (λ (g : Geometry). IsRoot (block_bytes g - body_header) (node_of d) root) (sym reads.geometry) is)

pub list_before : (d e : Device) (root : ℕ) (path : Path) (apart : set.FinSet nat_cmp) (list : UsageList) → IsGeometry d.geometry → OnlyReads d e → IsListAt (node_of e) root path apart list → IsListAt (node_of d) root path apart list
list_before d e root path apart list lawful reads is = subst (λ (f : Blocks). IsListAt f root path apart list) (OnlyReads_nodes d e lawful reads) is

pub state_cause : (d e left : Device) (s : State) (view : View) (path : Path) (shows : ShowsApart d s view) (fault : UsageFault) → IsMounted d s → view_refusal s.history view ≡ None → OnlyReads d e
    → StoredCause e shows.root path shows.apart left fault → StateCause d s view path left fault
state_cause d e left s view path shows (UsageFault.Refused fault) mounted fine reads (inl refused) =
    inl (path_refused d s view path shows.root fault mounted fine shows.shown (subst (λ (f : Blocks). IsPathRefused f shows.root path fault) (OnlyReads_nodes d e mounted.lawful reads) refused))
state_cause d e left s view path shows (UsageFault.Refused fault) mounted fine reads (inr met) = inr (cause_later d e left fault reads met)
state_cause d e left s view path shows UsageFault.TooManyBlocks mounted fine reads many = record {
  shows = shows;
  many = subst (λ (f : Blocks). ReachManyAt f shows.root path shows.apart) (OnlyReads_nodes d e mounted.lawful reads) many;
}

-- ---- reports

pub report_cause : (given d left : Device) (system : System) (view : View) (path : Path) (fault : UsageFault) → OnlyReads given d → IsMountOf given d system → StateCause d system.state view path left fault
    → ReportCause given view path left (of_usages fault)
report_cause given d left system view path (UsageFault.Refused fault) reads mounted why = record { device = d; system = system; reads = reads; mounted = mounted; why = why }
report_cause given d left system view path UsageFault.TooManyBlocks reads mounted why = record { device = d; system = system; reads = reads; mounted = mounted; why = why }
