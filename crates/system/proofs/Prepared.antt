-- A step of preparing leaves a system.
use Rattle.std.proofs.Common.{◌≡◌, inl, inr, ℕ, ◌+◌, ◌-◌, ◌≤◌, Bool, true, false, cond, ◌&&◌, ◌||◌, Option, Some, None, Result, Ok, Err, refl, sym, ap, subst, ◌∙◌, arith}
use Rattle.std.proofs.lemmas.Bool.{true≢false, both_ways, cases_Bool, or_right}
use Rattle.std.specs.Prelude.{not, is_none, is_some, IfSome, ◌/◌, [], ◌∷◌}
use Rattle.std.specs.FinSet as set
use Rattle.std.specs.Ordering.{nat_cmp}
use Rattle.fs_types.specs.declared.fault.Fault.{Fault}
use Rattle.fs_types.specs.declared.fault.Fault.TheVariants.{ReadOnly, PowerCut}
use Rattle.flash_model.specs.declared.geometry.Geometry.{Geometry}
use Rattle.flash_model.specs.Device.{Device, block_of}
use Rattle.block_ring.specs.BlockSet.{BlockSet}
use Rattle.block_ring.specs.Ring.{Ring}
use Rattle.bad_blocks.specs.Mode.{is_read_only}
use Rattle.node_store.specs.NodePages.{node_of}
use Rattle.node_store.specs.declared.storage.Storage.{Storage}
use Rattle.nodes.specs.Bodies.{Blocks}
use Rattle.nodes.specs.Reached.{Reached}
use Rattle.system.specs.CleaningRounds.{is_free}
use Rattle.system.specs.Preparations.{Preparation, PreparesBlocks, next_unprepared, preparation}
use Rattle.record_format.specs.declared.record.Record.{Record}
use Rattle.anchors.specs.declared.anchors.Anchors.{Anchors}
use Rattle.anchors.specs.Preparing.{IsPrepared, IsWanted, PreparesAnchor, erase_answer, left_of}
use Rattle.anchors.specs.Anchored.{ErasesAnchor}
use Rattle.anchors.specs.Keeping.{KeepsNewest}
use Rattle.anchors.proofs.Sparing.{Keeps_on}
use Rattle.working_state.specs.Roots.{IsReached}
use Rattle.working_state.specs.Steps.{is_cut_answer}
use Rattle.working_state.specs.declared.state.State.{State}
use Rattle.mounting.specs.Records.{history_of, roots_of}
use Rattle.mounting.specs.Saved.{saved_on}
use Rattle.mounting.proofs.SameNodes.{HasSameData, same_nodes}
use Rattle.system.specs.Cleaning.{IsUndisturbed}
use Rattle.system.specs.Preparing.{BlocksFollow, HasNextAnchor, PreparesAhead, PreparesBlocksOn, PreparesInTurn, PreparesItsAnchor, StepPrepares, TellsBoth, WantsAnchor, preparation_on}
use Rattle.system.specs.Systems.{IsSystem}
use Rattle.system.specs.declared.systems.System.{System}
use Rattle.system.proofs.Cleaned.{cleaned_system, is_undisturbed, turned, undisturbed_still, with_cleaned}
use Rattle.system.proofs.Committed.{same_saved}
use Rattle.system.proofs.Passing.{power_system}

-- ---- blocks that were prepared

module _ (d e : Device) (m : System) (t : Storage) (prepared : BlockSet) (budget : ℕ) (result : Result Bool Fault) (s : IsSystem d m) (on : m.state.is_off ≡ false)
    (prepares : PreparesBlocks (preparation_on d m) budget result (preparation e t prepared)) where
  pub prepared_system : IsSystem e (with_cleaned m t m.cleaned_to prepared)
  prepared_system = cleaned_system d e m t s on prepares.erases m.cleaned_to prepared prepares.blocks

  pub prepared_undisturbed : IsUndisturbed d m e (with_cleaned m t m.cleaned_to prepared)
  prepared_undisturbed = is_undisturbed d e m t s on prepares.erases m.cleaned_to prepared prepares.blocks

  pub prepared_blocks : (answer : Result Bool Fault) → TellsBoth result e (with_cleaned m t m.cleaned_to prepared) answer → PreparesBlocksOn d m budget answer e (with_cleaned m t m.cleaned_to prepared)
  prepared_blocks answer tells = record { ended = result; blocks = prepares; tells = tells; anchors = refl }

-- what is answered then
pub tells_both : (is_done : Bool) (anchor : Option ℕ) (e : Device) (n : System) → IfSome anchor (WantsAnchor e n) → (anchor ≡ None → HasNextAnchor e n) → TellsBoth (Ok is_done) e n (Ok (is_done && is_none anchor))
tells_both true None e n wanted ready = inl (refl, ready refl)
tells_both true (Some anchor) e n wanted ready = inr (refl, anchor, wanted)
tells_both false anchor e n wanted ready = refl

flip : (some none : Bool) → some ≡ not none → none ≡ not some
flip some true is = sym (ap not is)
flip some false is = sym (ap not is)

pub tells_then : (g : Geometry) (anchor : Option ℕ) (none : Bool) (e : Device) (n : System) → g ≡ e.geometry → is_some anchor ≡ not none → IfSome anchor (IsWanted g n.state.storage.bad n.anchors)
    → (anchor ≡ None → IsPrepared g n.state.storage.bad n.anchors) → TellsBoth (Ok true) e n (Ok none)
tells_then g anchor none e n sizes is wanted ready =
    subst (λ (b : Bool). TellsBoth (Ok true) e n (Ok b)) (sym (flip (is_some anchor) none is))
    (tells_both true anchor e n (subst (λ (h : Geometry). IfSome anchor (IsWanted h n.state.storage.bad n.anchors)) sizes wanted) (subst (λ (h : Geometry). anchor ≡ None → IsPrepared h n.state.storage.bad n.anchors) sizes ready))

-- ---- one after the other

busy_still : (m n : System) (b : ℕ) → n.state.storage.ring ≡ m.state.storage.ring → (set.contains m.state.storage.bad b ≡ true → set.contains n.state.storage.bad b ≡ true)
    → is_free m.state.storage b ≡ false → is_free n.state.storage b ≡ false
busy_still m n b ring stays busy = by (set.contains m.state.storage.ring.used b) (set.contains m.state.storage.bad b) refl refl
  where
    used_on : set.contains n.state.storage.ring.used b ≡ set.contains m.state.storage.ring.used b
    used_on = ap (λ (r : Ring). set.contains r.used b) ring

    by : (x y : Bool) → set.contains m.state.storage.ring.used b ≡ x → set.contains m.state.storage.bad b ≡ y → is_free n.state.storage b ≡ false
    by true y used bad = ap (λ (z : Bool). not (z || set.contains n.state.storage.bad b)) (used_on ∙ used)
    by false true used bad = ap not (or_right (set.contains n.state.storage.ring.used b) (set.contains n.state.storage.bad b) (stays bad))
    by false false used bad = absurd (both_ways (is_free m.state.storage b) busy ((λ i. not (used i || bad i))))

free_before : (m n : System) (b : ℕ) → n.state.storage.ring ≡ m.state.storage.ring → (set.contains m.state.storage.bad b ≡ true → set.contains n.state.storage.bad b ≡ true)
    → is_free n.state.storage b ≡ true → is_free m.state.storage b ≡ true
free_before m n b ring stays free = elim (cases_Bool (is_free m.state.storage b)) [
  | inl is ↦ is
  | inr busy ↦ absurd (both_ways (is_free n.state.storage b) (busy_still m n b ring stays busy) free)
]

module _ (d e f : Device) (l m n : System) (a : IsUndisturbed d l e m) (b : IsUndisturbed e m f n) (reached : (c : ℕ) → IsReached d l.state c → IsReached e m.state c)
    (recorded : (r : Record) (c : ℕ) → saved_on d ≡ Some r → Reached (node_of d) (roots_of (history_of r)) c → (saved_on e ≡ Some r) × Reached (node_of e) (roots_of (history_of r)) c) where
  same_block : (p : ℕ) → block_of e p ≡ block_of d p
  same_block p = ap (λ (g : Geometry). p / g.pages) a.device.geometry

  pub undisturbed_on : IsUndisturbed d l f n
  undisturbed_on = record {
    device = record {
      geometry = b.device.geometry ∙ a.device.geometry;
      worn = λ c is. b.device.worn c (a.device.worn c is);
      failed_reads = let h = a.device.failed_reads in let k = b.device.failed_reads in omega arith;
      cuts = let h = a.device.cuts in let k = b.device.cuts in omega arith;
      was_on = λ on. a.device.was_on (b.device.was_on on);
      stays_off = λ off. b.device.stays_off (ap (λ (x : Device). x.powered) (a.device.stays_off off) ∙ off) ∙ a.device.stays_off off;
    };
    history = b.history ∙ a.history;
    group = b.group ∙ a.group;
    machine = b.machine ∙ a.machine;
    ring = b.ring ∙ a.ring;
    pass = b.pass ∙ a.pass;
    record_roots = b.record_roots ∙ a.record_roots;
    remembered = b.remembered ∙ a.remembered;
    room = b.room ∙ a.room;
    busy_pages = λ p busy. b.busy_pages p (ap (is_free m.state.storage) (same_block p) ∙ busy_still l m (block_of d p) a.ring (a.stays_bad (block_of d p)) busy) ∙ a.busy_pages p busy;
    newest = Keeps_on d.geometry d.pages e.pages f.pages a.newest (subst (λ (g : Geometry). KeepsNewest g e.pages f.pages) a.device.geometry b.newest);
    kept = λ p there. b.kept p (subst (IsReached e m.state) (sym (same_block p)) (reached (block_of d p) there)) ∙ a.kept p there;
    record_kept = λ r is p there.
        let next = recorded r (block_of d p) is there in
        b.record_kept r next.0 p (subst (Reached (node_of e) (roots_of (history_of r))) (sym (same_block p)) next.1) ∙ a.record_kept r is p there;
    saved = b.saved ∙ a.saved;
    whole = λ is. b.whole (a.whole is);
    stays_bad = λ c is. b.stays_bad c (a.stays_bad c is);
    new_bad = λ c now before. elim (cases_Bool (set.contains m.state.storage.bad c)) [
      | inl listed ↦ (let x = a.new_bad c listed before in (x.0, b.device.worn c x.1))
      | inr good ↦ (let x = b.new_bad c now good in (free_before l m c a.ring (a.stays_bad c) x.0, x.1))
    ];
    failures = let h = a.failures in let k = b.failures in omega arith;
  }

-- ---- the anchor, and then blocks

abbrev left_over : ℕ → Result ℕ Fault
left_over left = Ok left

abbrev failed : (T : Type 0) → Fault → Result T Fault
failed T fault = Err fault

module _ (d e : Device) (m between : System) (budget : ℕ) (ended : Result ℕ Fault) (s : IsSystem d m) (prepares : PreparesItsAnchor d m budget ended e between) where
  -- an erase is one of the budget
  asks_left : (left : ℕ) → ended ≡ Ok left → e.operations + left ≤ d.operations + budget
  asks_left left is = elim prepares.anchor [
    | inl rests ↦ (let more : left ≡ budget = same_left left budget (sym is ∙ rests.answers) in let same : e.operations ≡ d.operations = ap (λ (x : Device). x.operations) rests.flash in omega arith)
    | inr (some, anchor, answer, tells, ahead) ↦ (let one = ahead.erases.changes.operations in let less = left_is answer (sym is ∙ tells) in omega arith)
  ]
    where
      same_left : (x y : ℕ) → left_over x ≡ left_over y → x ≡ y
      same_left x y e = cc

      left_is : (answer : Result (Unit {0}) Fault) → Ok left ≡ left_of budget answer → left ≡ budget - 1
      left_is (Ok u) is = same_left left (budget - 1) is
      left_is (Err fault) is = absurd cc

  asks_refused : (fault : Fault) → ended ≡ Err fault → e.operations ≤ d.operations + budget
  asks_refused fault is = elim prepares.anchor [
    | inl rests ↦ absurd (let wrong : Err fault ≡ Ok budget = sym is ∙ rests.answers in cc)
    | inr (some, anchor, answer, tells, ahead) ↦ (let one = ahead.erases.changes.operations in omega arith)
  ]

  -- where no anchor is to be erased ahead nothing is
  rests_on : HasNextAnchor d m → (ended ≡ Ok budget) × (e ≡ d) × (between.state.storage.bad ≡ m.state.storage.bad) × (between.anchors ≡ m.anchors)
  rests_on ready = elim prepares.anchor [
    | inl rests ↦ (rests.answers, rests.flash, rests.list, rests.anchors)
    | inr (some, anchor, answer, tells, ahead) ↦ absurd (ready anchor ahead.wanted)
  ]

  -- it was refused
  pub refused_step : (fault : Fault) → ended ≡ Err fault → is_read_only m.state.storage.bad ≡ false → StepPrepares d m budget (Err fault) e between
  refused_step fault is writable = record {
    read_only = λ full. absurd (both_ways (is_read_only m.state.storage.bad) writable full);
    prepares = λ _. record { flash = e; system = between; ended = Err fault; anchor = subst (λ (r : Result ℕ Fault). PreparesItsAnchor d m budget r e between) is prepares; blocks = (refl, refl, refl) };
    asks = asks_refused fault is;
    idle = λ _ ready none. absurd (let wrong : Err fault ≡ Ok budget = sym is ∙ (rests_on ready).0 in cc);
  }

  -- blocks followed
  module _ (left : ℕ) (is : ended ≡ Ok left) (f : Device) (n : System) (result : Result Bool Fault) (blocks : PreparesBlocksOn e between left result f n) where
    asks_all : f.operations ≤ d.operations + budget
    asks_all = let first = asks_left left is in let more = blocks.blocks.asks in let few = blocks.blocks.few in omega arith

    idle_all : HasNextAnchor d m → next_unprepared m.state.storage m.prepared ≡ None → (result ≡ Ok true) × (f ≡ d)
    idle_all ready none =
        let rests = rests_on ready in
        let unprepared = ap (λ (x : System). next_unprepared x.state.storage x.prepared) prepares.rest ∙ ap (λ (x : set.FinSet nat_cmp). next_unprepared (record m.state.storage { bad = x }) m.prepared) rests.2 in
        let idle = blocks.blocks.idle (unprepared ∙ none) in
        let flash : f ≡ d = ap (λ (x : Preparation). x.device) idle.1 ∙ rests.1 in
        let list : n.state.storage.bad ≡ m.state.storage.bad = ap (λ (x : Preparation). x.storage.bad) idle.1 ∙ rests.2 in
        let ready_then : HasNextAnchor f n = λ anchor wanted. ready anchor (subst (λ (x : Device × set.FinSet nat_cmp × Anchors). IsWanted x.0.geometry x.1 x.2 anchor) (λ i. (flash i, list i, (blocks.anchors ∙ rests.3) i)) wanted) in
        (tells_done (subst (λ (r : Result Bool Fault). TellsBoth r f n result) idle.0 blocks.tells) ready_then, flash)
      where
        tells_done : TellsBoth (Ok true) f n result → HasNextAnchor f n → result ≡ Ok true
        tells_done (inl (done, all)) later = done
        tells_done (inr (more, anchor, wanted)) later = absurd (later anchor wanted)

    pub done_step : is_read_only m.state.storage.bad ≡ false → StepPrepares d m budget result f n
    done_step writable = record {
      read_only = λ full. absurd (both_ways (is_read_only m.state.storage.bad) writable full);
      prepares = λ _. record { flash = e; system = between; ended = Ok left; anchor = subst (λ (r : Result ℕ Fault). PreparesItsAnchor d m budget r e between) is prepares; blocks = blocks };
      asks = asks_all;
      idle = λ _. idle_all;
    }

  -- what versions and the newest record reach is what it was
  same_data : HasSameData d e
  same_data = elim prepares.anchor [
    | inl rests ↦ subst (HasSameData d) (sym rests.flash) (record { lawful = s.mounted.lawful; geometry = refl; data_pages = λ p from. refl })
    | inr (some, anchor, answer, tells, ahead) ↦ record { lawful = s.mounted.lawful; geometry = ahead.erases.changes.only_anchors.geometry; data_pages = ahead.erases.changes.only_anchors.data_pages }
  ]

  as_saved_on : saved_on e ≡ saved_on d
  as_saved_on = elim prepares.anchor [
    | inl rests ↦ ap saved_on rests.flash
    | inr (some, anchor, answer, tells, ahead) ↦ same_saved d e ahead.erases.changes.only_anchors.geometry ahead.keeps.newest
  ]

  still_reached : (c : ℕ) → IsReached d m.state c → IsReached e between.state c
  still_reached c there =
      subst (λ (x : System). IsReached e x.state c) (sym prepares.rest) (there.0, there.1, subst (λ (g : Blocks). Reached g (there.0 ∷ []) c) (sym (same_nodes d e same_data)) there.2)

  still_recorded : (r : Record) (c : ℕ) → saved_on d ≡ Some r → Reached (node_of d) (roots_of (history_of r)) c → (saved_on e ≡ Some r) × Reached (node_of e) (roots_of (history_of r)) c
  still_recorded r c is there = (as_saved_on ∙ is, subst (λ (g : Blocks). Reached g (roots_of (history_of r)) c) (sym (same_nodes d e same_data)) there)

  pub both_undisturbed : (f : Device) (n : System) → IsUndisturbed d m e between → IsUndisturbed e between f n → IsUndisturbed d m f n
  both_undisturbed f n a b = undisturbed_on d e f m between n a b still_reached still_recorded

-- ---- the power

-- read-only mode is no cut
not_cut : (full : Bool) → failed (Unit {0}) PowerCut ≡ cond full (failed (Unit {0}) ReadOnly) (Ok tt) → ⊥
not_cut true is = cc
not_cut false is = cc

in_turn_cut : (d : Device) (m : System) (budget : ℕ) (e : Device) (n : System) → PreparesInTurn d m budget (Err PowerCut) e n → e.powered ≡ false
in_turn_cut d m budget e n turn = by turn.ended turn.anchor turn.blocks
  where
    told : (ended : Result Bool Fault) (left : ℕ) → PreparesBlocks (preparation_on turn.flash turn.system) left ended (preparation_on e n) → TellsBoth ended e n (Err PowerCut) → e.powered ≡ false
    told (Ok true) left blocks (inl (wrong, ready)) = absurd cc
    told (Ok true) left blocks (inr (wrong, anchor, wanted)) = absurd cc
    told (Ok false) left blocks tells = absurd cc
    told (Err PowerCut) left blocks tells = blocks.ends.5
    told (Err _) left blocks tells = absurd cc

    went : (done : Result Bool Fault) (anchor : ℕ) → ErasesAnchor d m.state.storage.bad turn.flash turn.system.state.storage.bad anchor done → Err PowerCut ≡ erase_answer done turn.system.state.storage.bad → turn.flash.powered ≡ false
    went (Ok true) anchor erases is = absurd cc
    went (Ok false) anchor erases is = absurd (not_cut (is_read_only turn.system.state.storage.bad) is)
    went (Err fault) anchor erases is = erases.changes.why.1

    same_fault : (T : Type 0) (x y : Fault) → failed T x ≡ failed T y → x ≡ y
    same_fault T x y is = cc

    refused : (answer : Result (Unit {0}) Fault) (fault : Fault) → PowerCut ≡ fault → failed ℕ fault ≡ left_of budget answer → failed (Unit {0}) PowerCut ≡ answer
    refused (Ok u) fault is tells = absurd cc
    refused (Err other) fault is tells = ap (λ (x : Fault). Err x) (is ∙ same_fault ℕ fault other tells)

    cut_at : (fault : Fault) → PowerCut ≡ fault → PreparesAnchor d m.state.storage.bad m.anchors budget (Err fault) turn.flash turn.system.state.storage.bad turn.system.anchors → turn.flash.powered ≡ false
    cut_at fault is (inl rests) = absurd (let wrong : Err fault ≡ Ok budget = rests.answers in cc)
    cut_at fault is (inr (some, place, answer, tells, ahead)) = went ahead.done place ahead.erases (refused answer fault is tells ∙ ahead.answers)

    by : (ended : Result ℕ Fault) → PreparesItsAnchor d m budget ended turn.flash turn.system → BlocksFollow ended turn.flash turn.system (Err PowerCut) e n → e.powered ≡ false
    by (Ok left) anchor blocks = told blocks.ended left blocks.blocks blocks.tells
    by (Err fault) anchor (is, stays, kept) = ap (λ (x : Preparation). x.device.powered) stays ∙ cut_at fault (same_fault Bool PowerCut fault is) anchor.anchor

prepare_cut : (d : Device) (m : System) (budget : ℕ) (result : Result Bool Fault) (e : Device) (n : System) → StepPrepares d m budget result e n → is_cut_answer result ≡ true → e.powered ≡ false
prepare_cut d m budget (Ok done) e n step cut = absurd (true≢false (sym cut))
prepare_cut d m budget (Err PowerCut) e n step cut = by (is_read_only m.state.storage.bad) refl
  where
    by : (x : Bool) → is_read_only m.state.storage.bad ≡ x → e.powered ≡ false
    by true read_only = let wrong : Err PowerCut ≡ Err ReadOnly = (step.read_only read_only).0 in absurd cc
    by false writable = in_turn_cut d m budget e n (step.prepares writable)
prepare_cut d m budget (Err _) e n step cut = absurd (true≢false (sym cut))

module _ (d e : Device) (m n : System) (budget : ℕ) (answer : Result Bool Fault) (on : m.state.is_off ≡ false) (system : IsSystem e n) (still_on : n.state.is_off ≡ false) (u : IsUndisturbed d m e n)
    (uncleaned : n.cleaned_to ≡ m.cleaned_to) (step : StepPrepares d m budget answer e n) where
  abbrev off_then : Bool
  off_then = n.state.is_off || is_cut_answer answer

  went_dark : off_then ≡ true → e.powered ≡ false
  went_dark dark = prepare_cut d m budget answer e n step (sym (ap (λ (x : Bool). x || is_cut_answer answer) still_on) ∙ dark)

  still_follow : (ended : Result ℕ Fault) (flash : Device) (system : System) → BlocksFollow ended flash system answer e n → BlocksFollow ended flash system answer e (turned d e m n off_then)
  still_follow (Ok left) flash system blocks = record { ended = blocks.ended; blocks = blocks.blocks; tells = still_tells blocks.ended blocks.tells; anchors = blocks.anchors }
    where
      still_tells : (done : Result Bool Fault) → TellsBoth done e n answer → TellsBoth done e (turned d e m n off_then) answer
      still_tells (Ok true) tells = tells
      still_tells (Ok false) tells = tells
      still_tells (Err fault) tells = tells
  still_follow (Err fault) flash system blocks = blocks

  still_prepares : StepPrepares d m budget answer e (turned d e m n off_then)
  still_prepares = record {
    read_only = step.read_only;
    prepares = λ writable.
        let turn = step.prepares writable in
        record { flash = turn.flash; system = turn.system; ended = turn.ended; anchor = turn.anchor; blocks = still_follow turn.ended turn.flash turn.system turn.blocks };
    asks = step.asks;
    idle = step.idle;
  }

  pub prepared_ahead : (t : State) (result : Result Bool Fault) → t ≡ record n.state { is_off = off_then } → result ≡ answer
      → IsSystem e (record n { state = t }) × PreparesAhead d m budget result e (record n { state = t })
  prepared_ahead t result is same =
      subst (λ (r : Result Bool Fault). IsSystem e (record n { state = t }) × PreparesAhead d m budget r e (record n { state = t })) (sym same)
      (subst (λ (v : State). IsSystem e (record n { state = v }) × PreparesAhead d m budget answer e (record n { state = v })) (sym is) (
        power_system e n off_then system still_on went_dark,
        record {
          undisturbed = undisturbed_still d e m n off_then u;
          cleaned_to = uncleaned;
          prepares = λ _. still_prepares;
          off = ap (λ (x : Bool). x || is_cut_answer answer) (still_on ∙ sym on);
          stopped = λ stopped. absurd (both_ways m.state.is_off on stopped);
        },
      ))
