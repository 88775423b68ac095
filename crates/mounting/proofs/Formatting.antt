-- A formatted flash holds one version with an empty root, and why a flash is not formatted.
use Rattle.std.proofs.Common.{◌≡◌, ℕ, zero, suc, ◌+◌, ◌-◌, ◌*◌, ◌/◌, ◌<◌, ◌≤◌, Bool, true, false, ◌||◌, Option, Some, List, [], ◌∷◌, Result, Ok, Err, inl, inr, refl, sym, ap, subst, ◌∙◌, arith}
use Rattle.std.proofs.lemmas.Bool.{both_ways, or_left, or_right, le-leb, cases_Bool, cases_eq, cases_lt, lt-ltb, le-ltb}
use Rattle.std.proofs.Math.Nat.{mul-le-mul_left}
use Rattle.std.specs.List.{range_with_len}
use Rattle.std.specs.Prelude.{nat_le, map, count_by, Contains, IfErr, OnOk}
use Rattle.std.specs.FinSet as set
use Rattle.std.specs.Ordering.{nat_cmp}
use Rattle.std.specs.List.Sorted.{IsStrictlyIncreasing}
use Rattle.fs_types.specs.declared.fault.Fault.{Fault}
use Rattle.fs_types.specs.declared.fault.Fault.TheVariants.{ReadOnly, FlashFull, NoAnchors, Overflow, ReadFailed, PowerCut, NoMemory}
use Rattle.fs_types.specs.declared.limits.TheConstants.{ANCHORS}
use Rattle.history_machine.specs.History.{Past, fresh, map_roots}
use Rattle.history_machine.specs.Machine.{Machine}
use Rattle.plain_trees.specs.Trees.{Tree, bare}
use Rattle.flash_model.specs.declared.geometry.Geometry.{Geometry}
use Rattle.flash_model.specs.Device.{Device, Page}
use Rattle.flash_model.specs.Geometry.{IsGeometry, block_bytes}
use Rattle.bad_blocks.specs.Mode.{bad_anchors, is_read_only}
use Rattle.block_ring.specs.Ring.{IsDataBlock}
use Rattle.node_format.specs.Headers.{body_header}
use Rattle.node_store.specs.NodePages.{node_of}
use Rattle.nodes.specs.Bodies.{Blocks}
use Rattle.nodes.specs.Trees.{IsRoot}
use Rattle.record_format.specs.declared.record.Record.{Record}
use Rattle.record_format.specs.declared.record.Checkpoint.{Checkpoint}
use Rattle.anchors.specs.declared.anchors.Anchors.{Anchors}
use Rattle.anchors.specs.Parts.{part_of, Part, parts_on, best_on, sequence_of, pages_of, greatest_on}
use Rattle.anchors.specs.Anchored.{OnlyAnchors, Asked, Fades, AreErased}
use Rattle.anchors.specs.Committing.{IsCommitted}
use Rattle.anchors.specs.Newest.{committed_on}
use Rattle.anchors.specs.Remembering.{MayCommit, ReadsNone, IsPlaced}
use Rattle.anchors.proofs.Beginning.{still_may_commit, committed_is_newest}
use Rattle.working_state.specs.Fresh.{IsFirstGood, IsBegun, AsksForRoot, HasGrown, GrowsByData, BeginCause}
use Rattle.working_state.proofs.BadCounts.{count-by, len-within}
use Rattle.working_state.specs.Moments.{moment}
use Rattle.working_state.specs.Seen.{capacity_of, tree_on}
use Rattle.working_state.specs.declared.state.State.{State}
use Rattle.mounting.specs.Contents.{record_of}
use Rattle.mounting.specs.Costs.{record_pages, AsksToClear, AsksForRecord, AsksToFormat, AsksToFormatAtMost}
use Rattle.mounting.specs.Records.{history_of, roots_of}
use Rattle.mounting.specs.Saved.{record_in, saved_on}
use Rattle.mounting.specs.Formats.{BeginsOnLowest, IsFirstRoot, IsFormatted, HaveFailed, ListsFailed, AreCleared, IsNumbered, FormatCause, ClearCause, full_for, FirstRootCause, FirstRecordCause}
use Rattle.mounting.proofs.PlainRoots.{not_plain}
use Rattle.mounting.proofs.SameNodes.{HasSameData, same_nodes, same_tree}

abbrev Bad : Type 0
Bad = set.FinSet nat_cmp

-- ---- lists of bad blocks

anchors_grown : (d : Device) (was : Bad) (e : Device) (now : Bad) → OnlyAnchors d was e now → HasGrown d was e now
anchors_grown d was e now only = record { stays_bad = only.stays_bad; bad_worn = only.bad_worn; worn = only.worn; failures = only.failures }

grown_on : (d e f : Device) (was mid now : Bad) → HasGrown d was e mid → HasGrown e mid f now → HasGrown d was f now
grown_on d e f was mid now first then = record {
  stays_bad = λ b has. then.stays_bad b (first.stays_bad b has);
  bad_worn = λ b has new. elim (cases_Bool (set.contains mid b)) [
    | inl before ↦ then.worn b (first.bad_worn b before new)
    | inr not_before ↦ then.bad_worn b has not_before
  ];
  worn = λ b is. then.worn b (first.worn b is);
  failures = let one = first.failures in let two = then.failures in omega arith;
}

have_failed : (d e : Device) (bad : Bad) → HasGrown d set.empty e bad → HaveFailed d bad e
have_failed d e bad grown = record {
  failures = let none : set.len (set.empty {R = nat_cmp}) ≡ 0 = set.len-empty nat_cmp in let all = grown.failures in omega arith;
  worn = λ b has. grown.bad_worn b has (set.contains-empty nat_cmp b);
}

-- anchors alone are bad, where none was
pub only_bad_anchors : (d e : Device) (bad : Bad) → OnlyAnchors d set.empty e bad → (b : ℕ) → set.contains bad b ≡ true → b < ANCHORS
only_bad_anchors d e bad only b has = only.bad_anchor b has (set.contains-empty nat_cmp b)

-- ---- the anchors are cleared

pub cleared : (d e : Device) (was now : Bad) → was ≡ set.empty → OnlyAnchors d was e now → AreErased e now ANCHORS → Fades d.pages e.pages → AreCleared d now e
cleared d e was now none only erased fades = record { only_anchors = subst (λ (bad : Bad). OnlyAnchors d bad e now) none only; erased = erased; fades = fades }

pub cleared_why : (d e : Device) (bad : Bad) → OnlyAnchors d set.empty e bad → 7 ≤ bad_anchors bad → ClearCause d NoAnchors e
cleared_why d e bad only many = (bad, have_failed d e bad (anchors_grown d set.empty e bad only), many)

-- ---- the first root

pub root_why : (d : Device) (was : Bad) (fault : Fault) (e : Device) → BeginCause d was fault e → FirstRootCause d was (full_for fault) e
root_why d was FlashFull e (bad, lacks) = (bad, lacks.grown, lacks.by_data, inl lacks.all)
root_why d was ReadOnly e (bad, full) = (bad, full.grown, full.by_data, inr full.full)
root_why d was PowerCut e why = why
root_why d was NoMemory e why = tt
root_why d was _ e why = absurd why

-- a commit may follow, since no anchor's page changed
pub begun_ready : (d : Device) (was : Bad) (limit : ℕ) (e : Device) (s : State) (anchors : Anchors) → IsBegun d was limit (moment e s) → MayCommit d was anchors → MayCommit e s.storage.bad anchors
begun_ready d was limit e s anchors begun ready =
    still_may_commit d e was s.storage.bad anchors begun.evolved.geometry begun.evolved.anchor_pages begun.evolved.stays_bad ready

begun_grown : (d : Device) (was : Bad) (limit : ℕ) (e : Device) (s : State) → IsBegun d was limit (moment e s) → HasGrown d was e s.storage.bad
begun_grown d was limit e s begun = record { stays_bad = begun.evolved.stays_bad; bad_worn = begun.evolved.bad_worn; worn = begun.evolved.worn; failures = begun.evolved.failures }

-- ---- anchors enter no list that grows by data blocks

still_few : (d : Device) (was bad : Bad) → GrowsByData d was bad → bad_anchors was < 7 → bad_anchors bad < 7
still_few d was bad by_data few =
    let within = count-by (set.contains bad) (λ k. nat_le ANCHORS k || set.contains was k) (range_with_len 0 ANCHORS) (λ k has. elim (cases_Bool (set.contains was k)) [
      | inl had ↦ or_right (nat_le ANCHORS k) (set.contains was k) had
      | inr had_not ↦ or_left (nat_le ANCHORS k) (set.contains was k) (le-leb ANCHORS k (by_data k has had_not).0)
    ]) in
    let same : count_by (λ k. nat_le ANCHORS k || set.contains was k) (range_with_len 0 ANCHORS) ≡ bad_anchors was = refl in
    omega arith

-- ---- the whole

pub root_cause : (d e : Device) (was : Bad) (limit : ℕ) (f : Device) (fault : Fault) → OnlyAnchors d set.empty e was → bad_anchors was < 7 → FirstRootCause e was fault f → FormatCause d limit fault f
root_cause d e was limit f FlashFull only few (bad, grown, by_data, lacks) =
    let failed = have_failed d f bad (grown_on d e f set.empty was bad (anchors_grown d set.empty e was only) grown) in
    elim lacks [
      | inl all ↦ (bad, failed, still_few e was bad by_data few, inl (subst (λ (g : Geometry). (b : ℕ) → IsDataBlock g.blocks b → set.contains bad b ≡ true) only.geometry all))
      | inr full ↦ (bad, failed, still_few e was bad by_data few, inr full)
    ]
root_cause d e was limit f PowerCut only few why = why
root_cause d e was limit f NoMemory only few why = tt
root_cause d e was limit f _ only few why = absurd why

record_cause : (d e : Device) (was : Bad) (limit : ℕ) (f : Device) (s : State) (h : Device) (bad : Bad) (fault : Fault) → OnlyAnchors d set.empty e was → IsBegun e was limit (moment f s)
    → OnlyAnchors f s.storage.bad h bad → FirstRecordCause f fault h bad → FormatCause d limit fault h
record_cause d e was limit f s h bad fault first begun last why = on fault why
  where
    failed : HaveFailed d bad h
    failed = have_failed d h bad (grown_on d e h set.empty was bad (anchors_grown d set.empty e was first) (grown_on e f h was s.storage.bad bad (begun_grown e was limit f s begun) (anchors_grown f s.storage.bad h bad last)))

    on : (x : Fault) → FirstRecordCause f x h bad → FormatCause d limit x h
    on NoAnchors cause = (bad, failed, cause)
    on FlashFull cause = (bad, failed, cause.1, inr cause.0)
    on Overflow cause = cause
    on ReadFailed cause = let one = first.failed_reads in let two = begun.evolved.failed_reads in let c : f.failed_reads < h.failed_reads = cause in omega arith
    on PowerCut cause = cause
    on NoMemory cause = tt
    on _ cause = absurd cause

pub all_causes : (d e : Device) (was : Bad) (limit : ℕ) (f : Device) (s : State) (h : Device) (bad : Bad) (result : Result (Unit {0}) Fault) → OnlyAnchors d set.empty e was → IsBegun e was limit (moment f s)
    → OnlyAnchors f s.storage.bad h bad → IfErr result (λ fault. FirstRecordCause f fault h bad) → IfErr result (λ fault. FormatCause d limit fault h)
all_causes d e was limit f s h bad (Ok done) first begun last why = tt
all_causes d e was limit f s h bad (Err fault) first begun last why = record_cause d e was limit f s h bad fault first begun last why

-- ---- what is committed

only_root : (root other : ℕ) → Contains (root ∷ []) other → other ≡ root
only_root root other (zero, below, is) = sym is
only_root root other (suc k, below, is) = absurd (omega arith)

the_root : (root : ℕ) → Contains (root ∷ []) root
the_root root = (0, omega arith, refl)

-- the record that is committed
abbrev committed_record : Device → State → ℕ → List ℕ → Record
committed_record d s sequence list = record (record_of d.geometry s.history s.storage.ring.last) { sequence = sequence; bad = list }

module _ (d : Device) (was : Bad) (limit : ℕ) (e : Device) (s : State) (begun : IsBegun d was limit (moment e s)) (f : Device) (bad : Bad) (only : OnlyAnchors e s.storage.bad f bad) where
  same : HasSameData e f
  same = record { lawful = begun.mounted.lawful; geometry = only.geometry; data_pages = only.data_pages }

  nodes : node_of f ≡ node_of e
  nodes = same_nodes e f same

  held : (sequence : ℕ) (list : List ℕ) → history_of (committed_record e s sequence list) ≡ fresh limit begun.root
  held sequence list = ap (λ (h : Past ℕ). record h { checkpoints = map (λ (c : Checkpoint). (c.name, c.root)) (record_of e.geometry h 0).checkpoints }) begun.history

  -- its tree is an empty one
  empty_there : fresh limit (tree_on f begun.root) ≡ fresh limit bare
  empty_there =
      ap (λ (tree : ℕ → Tree). fresh limit (tree begun.root)) (same_tree e f same)
      ∙ sym (ap (map_roots (tree_on e)) begun.history)
      ∙ ap (λ (m : Machine). m.history) begun.machine

  rooted : IsRoot (block_bytes f.geometry - body_header) (node_of f) begun.root
  rooted =
      let before : IsRoot (capacity_of e) (node_of e) begun.root = (begun.mounted.roots begun.root (inl (subst (λ (h : Past ℕ). Contains (map (λ v. v.root) h.versions) begun.root) (sym begun.history) (the_root begun.root)))).rooted in
      subst (λ (g : Geometry). IsRoot (block_bytes g - body_header) (node_of f) begun.root) (sym only.geometry)
      (subst (λ (x : Blocks). IsRoot (capacity_of e) x begun.root) (sym nodes) before)

  first_good : IsFirstGood bad begun.root
  first_good = let first = begun.root_block in record {
    data_block = first.data_block;
    good = elim (cases_Bool (set.contains bad begun.root)) [
      | inl has ↦ absurd (let below = only.bad_anchor begun.root has first.good in let low = first.data_block in omega arith)
      | inr free ↦ free
    ];
    first = λ c low before. only.stays_bad c (first.first c low before);
  }

  formatted : (sequence : ℕ) → IsCommitted f.pages (record_of e.geometry s.history s.storage.ring.last) sequence bad → is_read_only bad ≡ false → BeginsOnLowest f bad → IsFormatted limit f
  formatted sequence committed writable placed = on (committed_is_newest f (record_of e.geometry s.history s.storage.ring.last) sequence bad only.geometry committed)
    where
      on : (list : List ℕ) × IsStrictlyIncreasing list × (set.from_list list ≡ bad) × (committed_on f ≡ Some (Ok (committed_record e s sequence list))) → IsFormatted limit f
      on (list, ascends, listed, newest) =
          let same = held sequence list in
          record {
            lawful = subst IsGeometry (sym only.geometry) begun.mounted.lawful;
            newest = committed_record e s sequence list;
            saved = ap record_in newest;
            history = ap (map_roots (tree_on f)) same ∙ empty_there;
            trees = (
              λ root has.
                  let is : root ≡ begun.root = only_root begun.root root (subst (λ (h : Past ℕ). Contains (roots_of h) root) same has) in
                  subst (IsRoot (block_bytes f.geometry - body_header) (node_of f)) (sym is) rooted,
              not_plain (committed_record e s sequence list) refl,
            );
            first_root = λ root has.
                let is : root ≡ begun.root = only_root begun.root root (subst (λ (h : Past ℕ). Contains (roots_of h) root) same has) in
                subst (IsFirstRoot f (committed_record e s sequence list)) (sym is) (record {
                  node = ap (λ (x : Blocks). x begun.root) nodes ∙ begun.node;
                  block = subst (λ (b : Bad). IsFirstGood b begun.root) (sym listed) first_good;
                  last = begun.last;
                });
            writable = ap is_read_only listed ∙ writable;
            place = subst (BeginsOnLowest f) (sym listed) placed;
            format = refl;
          }

  pub all_formatted : (sequence : ℕ) (result : Result (Unit {0}) Fault) → OnOk result (IsCommitted f.pages (record_of e.geometry s.history s.storage.ring.last) sequence bad) → OnOk result (is_read_only bad ≡ false) → OnOk result (BeginsOnLowest f bad)
      → OnOk result (IsFormatted limit f)
  all_formatted sequence (Ok done) committed writable placed = formatted sequence committed writable placed
  all_formatted sequence (Err fault) committed writable placed = tt

-- ---- the list of the record, and its sequence

same_record : (a b : Record) → Some a ≡ Some b → a ≡ b
same_record a b e = cc

same_part : (g : Geometry) (old new : ℕ → Page) → ((p : ℕ) → p / g.pages < ANCHORS → new p ≡ old p) → (p : ℕ) → parts_on g new p ≡ parts_on g old p
same_part g old new same p = elim (cases_lt (p / g.pages) ANCHORS) [
  | inl lt ↦ rw (lt-ltb _ _ lt) (ap part_of (same p lt))
  | inr le ↦ rw (le-ltb _ _ le) refl
]

same_greatest : (g : Geometry) (old new : ℕ → Page) → ((p : ℕ) → p / g.pages < ANCHORS → new p ≡ old p) → greatest_on g new ≡ greatest_on g old
same_greatest g old new same = ap (λ (parts : ℕ → Option Part). sequence_of (best_on g parts).found) (λ i p. same_part g old new same p i)

module _ (d e : Device) (was : Bad) (limit : ℕ) (f : Device) (s : State) (h : Device) (bad : Bad) (first : AreCleared d was e) (begun : IsBegun e was limit (moment f s)) (only : OnlyAnchors f s.storage.bad h bad) where
  all_failed : HaveFailed d bad h
  all_failed = have_failed d h bad (grown_on d e h set.empty was bad (anchors_grown d set.empty e was first.only_anchors) (grown_on e f h was s.storage.bad bad (begun_grown e was limit f s begun) (anchors_grown f s.storage.bad h bad only)))

  pub sizes_stay : (result : Result (Unit {0}) Fault) → OnOk result (h.geometry ≡ d.geometry)
  sizes_stay (Ok done) = only.geometry ∙ begun.evolved.geometry ∙ first.only_anchors.geometry
  sizes_stay (Err fault) = tt

  -- the newest record has this list and this sequence
  saved_as : (sequence : ℕ) → IsCommitted h.pages (record_of f.geometry s.history s.storage.ring.last) sequence bad → (r : Record) → saved_on h ≡ Some r → (set.from_list r.bad ≡ bad) × (r.sequence ≡ sequence)
  saved_as sequence committed r is = on (committed_is_newest h (record_of f.geometry s.history s.storage.ring.last) sequence bad only.geometry committed)
    where
      on : (list : List ℕ) × IsStrictlyIncreasing list × (set.from_list list ≡ bad) × (committed_on h ≡ Some (Ok (committed_record f s sequence list))) → (set.from_list r.bad ≡ bad) × (r.sequence ≡ sequence)
      on (list, ascends, listed, newest) =
          let saved : saved_on h ≡ Some (committed_record f s sequence list) = ap record_in newest in
          let one : r ≡ committed_record f s sequence list = same_record r (committed_record f s sequence list) (sym is ∙ saved) in
          (ap (λ (x : Record). set.from_list x.bad) one ∙ listed, ap (λ (x : Record). x.sequence) one)

  pub lists_failed : (sequence : ℕ) (result : Result (Unit {0}) Fault) → OnOk result (IsCommitted h.pages (record_of f.geometry s.history s.storage.ring.last) sequence bad) → OnOk result (ListsFailed d h)
  lists_failed sequence (Ok done) committed = λ r is. subst (λ (x : Bad). HaveFailed d x h) (sym (saved_as sequence committed r is).0) all_failed
  lists_failed sequence (Err fault) committed = tt

  -- no anchor's page changed before the commit
  left_greatest : greatest_on f.geometry f.pages ≡ greatest_on e.geometry e.pages
  left_greatest = ap (λ (g : Geometry). greatest_on g f.pages) begun.evolved.geometry ∙ same_greatest e.geometry e.pages f.pages begun.evolved.anchor_pages

  pub numbered : (result : Result (Unit {0}) Fault) → OnOk result (IsCommitted h.pages (record_of f.geometry s.history s.storage.ring.last) (greatest_on f.geometry f.pages + 1) bad) → OnOk result (IsNumbered d h)
  numbered (Ok done) committed = record {
    bad = was;
    cleared = e;
    clears = first;
    listed = λ r is b has. ap (λ (x : Bad). set.contains x b) (saved_as (greatest_on f.geometry f.pages + 1) committed r is).0 ∙ only.stays_bad b (begun.evolved.stays_bad b has);
    sequence = λ r is. (saved_as (greatest_on f.geometry f.pages + 1) committed r is).1 ∙ ap (λ (n : ℕ). n + 1) left_greatest;
  }
  numbered (Err fault) committed = tt

-- ---- what was asked for

-- the record was committed
pub record_asked : (old new : Device) (was now : Bad) (anchors : Anchors) (r : Record) (result : Result (Unit {0}) Fault) → r.geometry ≡ old.geometry
    → OnOk result ((reads : ℕ) × (ReadsNone was anchors → reads ≡ 0) × (reads ≤ ANCHORS * r.geometry.pages) × IsPlaced old was anchors r reads new now) → OnOk result (AsksForRecord old was new)
record_asked old new was now anchors r (Err fault) same placed = tt
record_asked old new was now anchors r (Ok done) same (reads, none, few, placed) = record {
  failed = asked.1.failed;
  reads = reads;
  failures = asked.1.failures;
  unread = λ good. none (inr good);
  once = subst (λ (g : Geometry). reads ≤ ANCHORS * g.pages) same few;
  most = let all = asked.1.most in let n = asked.2 in omega (arith, all, n, count);
}
  where
    count : record_pages new ≡ placed.found.head.count
    count = ap pages_of placed.newest

    asked : (n : ℕ) × Asked old new n × (n ≤ reads + (1 + placed.found.head.count))
    asked = elim (cases_eq (placed.found.page / old.geometry.pages) placed.home) [
      | inl here ↦ (reads + placed.found.head.count, placed.begun here, omega arith)
      | inr apart ↦ (reads + (1 + placed.found.head.count), placed.elsewhere apart, omega arith)
    ]

-- the anchors were tried
pub clears_asked : (d e : Device) (was bad : Bad) → was ≡ set.empty → OnlyAnchors d was e bad → e.operations ≤ d.operations + ANCHORS → AsksToClear d e
clears_asked d e was bad none only most = record {
  failed = set.len bad;
  failures = let empty : set.len was ≡ 0 = ap set.len none ∙ set.len-empty nat_cmp in let h = only.failures in omega (arith, empty, h);
  most = most;
}

-- parts of a format
pub asked_nothing : (d : Device) → AsksToFormatAtMost d d
asked_nothing d = record { failed = 0; failures = omega arith; most = omega arith }

pub asked_clear : (d e : Device) → AsksToClear d e → AsksToFormatAtMost d e
asked_clear d e cleared = record { failed = cleared.failed; failures = cleared.failures; most = let h = cleared.most in omega (arith, h) }

pub asked_root : (d e f : Device) → AsksToClear d e → AsksForRoot e f → AsksToFormatAtMost d f
asked_root d e f cleared root = record {
  failed = cleared.failed + root.failed;
  failures = let one = cleared.failures in let two = root.failures in omega (arith, one, two);
  most = let one = cleared.most in let two = root.most in omega (arith, one, two);
}

pub asked_record : (d e : Device) (was : Bad) (limit : ℕ) (f : Device) (s : State) (h : Device) (bad : Bad) → AsksToClear d e → AsksForRoot e f → OnlyAnchors d set.empty e was → IsBegun e was limit (moment f s)
    → OnlyAnchors f s.storage.bad h bad → h.operations ≤ f.operations + ANCHORS * f.geometry.pages + ANCHORS * (f.geometry.pages + 1) → AsksToFormatAtMost d h
asked_record d e was limit f s h bad cleared root first begun last more = record {
  failed = cleared.failed + root.failed + (set.len bad - set.len s.storage.bad);
  failures =
      let grown : set.len s.storage.bad ≤ set.len bad = len-within s.storage.bad bad last.stays_bad in
      let one = cleared.failures in
      let two = root.failures in
      let three = last.failures in
      omega (arith, grown, one, two, three);
  most =
      let sizes : f.geometry ≡ d.geometry = begun.evolved.geometry ∙ first.geometry in
      let one = cleared.most in
      let two = root.most in
      let three = subst (λ (g : Geometry). h.operations ≤ f.operations + ANCHORS * g.pages + ANCHORS * (g.pages + 1)) sizes more in
      omega (arith, one, two, three);
}

-- the sum of it all
sum_asked : (d e f h reads pages root last was size : ℕ) → 1 ≤ size → e ≤ d + ANCHORS → f ≤ e + (1 + root) * 2 → h ≤ f + reads + (1 + pages) + last * (1 + size)
    → h ≤ d + ANCHORS + reads + 2 + (1 + pages) + (was + root + last) * (1 + size)
sum_asked d e f h reads pages root last was size some one two three =
    let more : root * 2 ≤ root * (1 + size) = mul-le-mul_left root (omega arith) in
    omega (arith, one, two, three, more)

module _ (d e : Device) (was : Bad) (limit : ℕ) (f : Device) (s : State) (h : Device) (first : AreCleared d was e) (begun : IsBegun e was limit (moment f s)) (cleared : AsksToClear d e) (root : AsksForRoot e f) where
  no_anchor : set.len was ≡ 0 → (b : ℕ) → b < ANCHORS → set.contains s.storage.bad b ≡ false
  no_anchor none b low = by (set.contains s.storage.bad b) refl
    where
      by : (x : Bool) → set.contains s.storage.bad b ≡ x → set.contains s.storage.bad b ≡ false
      by false is = is
      by true is = absurd (elim (cases_Bool (set.contains was b)) [
        | inl had ↦ both_ways (set.contains was b) (ap (λ (bad : Bad). set.contains bad b) (set.empty_of_len was none) ∙ set.contains-empty nat_cmp b) had
        | inr had_not ↦ let high = (begun.evolved.bad_data b is had_not).0 in omega (arith, high)
      ])

  pub all_asked : (result : Result (Unit {0}) Fault) → OnOk result (AsksForRecord f s.storage.bad h) → OnOk result (AsksToFormat d h)
  all_asked (Err fault) last = tt
  all_asked (Ok done) last = record {
    failed = set.len was + root.failed + last.failed;
    reads = last.reads;
    failures =
        let none : set.len (set.empty {R = nat_cmp}) ≡ 0 = set.len-empty nat_cmp in
        let one = first.only_anchors.failures in
        let two = root.failures in
        let three = last.failures in
        omega (arith, none, one, two, three);
    unread = λ failed. last.unread (no_anchor (omega (arith, failed)));
    once = subst (λ (g : Geometry). last.reads ≤ ANCHORS * g.pages) sizes last.once;
    most = sum_asked d.operations e.operations f.operations h.operations last.reads (record_pages h) root.failed last.failed (set.len was) d.geometry.pages some cleared.most root.most
        (subst (λ (g : Geometry). h.operations ≤ f.operations + last.reads + (1 + record_pages h) + last.failed * (1 + g.pages)) sizes last.most);
  }
    where
      sizes : f.geometry ≡ d.geometry
      sizes = begun.evolved.geometry ∙ first.only_anchors.geometry

      some : 1 ≤ d.geometry.pages
      some = let lawful = subst IsGeometry sizes begun.mounted.lawful in lawful.some_pages
