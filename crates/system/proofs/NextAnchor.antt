-- A system of which an anchor was erased ahead: it is as after a commit that was refused.
use Rattle.std.proofs.Common.{◌≡◌, inl, inr, ℕ, Bool, true, false, ◌||◌, Some, Result, Ok, Err, refl, sym, ap, subst, ◌∙◌, arith}
use Rattle.std.proofs.lemmas.Bool.{both_ways, cases_Bool}
use Rattle.std.specs.Prelude.{not, OnOk, if◌then◌else◌}
use Rattle.std.specs.Option.{option_map}
use Rattle.std.specs.FinSet as set
use Rattle.std.specs.Ordering.{nat_cmp}
use Rattle.fs_types.specs.declared.fault.Fault.{Fault}
use Rattle.fs_types.specs.declared.fault.Fault.TheVariants.{ReadOnly, Overflow}
use Rattle.history_machine.specs.History.{map_roots}
use Rattle.flash_model.specs.Device.{Device, block_of}
use Rattle.block_ring.specs.Ring.{AreDataBlocks}
use Rattle.bad_blocks.specs.Mode.{is_read_only}
use Rattle.node_store.specs.NodePages.{node_of}
use Rattle.nodes.specs.Reached.{Reached}
use Rattle.system.specs.CleaningRounds.{is_free}
use Rattle.record_format.specs.declared.record.Record.{Record}
use Rattle.anchors.specs.declared.anchors.Anchors.{Anchors}
use Rattle.anchors.specs.Anchored.{OnlyAnchors, list_after}
use Rattle.anchors.specs.Newest.{remembered}
use Rattle.anchors.specs.Preparing.{ErasesAhead, PreparesAnchor, erase_answer, left_of}
use Rattle.anchors.specs.Remembering.{MayCommit}
use Rattle.anchors.proofs.Anchoring.{new_listed}
use Rattle.anchors.proofs.Sparing.{Keeps_itself}
use Rattle.mounting.specs.Records.{history_of, roots_of}
use Rattle.mounting.specs.Saved.{saved_on}
use Rattle.mounting.proofs.SameNodes.{same_tree}
use Rattle.system.specs.Cleaning.{IsUndisturbed}
use Rattle.system.specs.Commits.{Saves}
use Rattle.system.specs.Preparing.{PreparesItsAnchor}
use Rattle.system.specs.Systems.{IsSystem}
use Rattle.system.specs.declared.systems.System.{System}
use Rattle.system.proofs.AfterCommits.{is_newest, is_system, not_none, same, same_machine, whole_after}
use Rattle.system.proofs.Committed.{same_saved}
use Rattle.system.proofs.Running.{still_running}
use Rattle.system.proofs.Syncs.{reached_from}

-- a system with another bad list, and with these anchors remembered
abbrev pub with_anchors : System → set.FinSet nat_cmp → Anchors → System
with_anchors m bad anchors = record m { state = record m.state { storage = record m.state.storage { bad = bad } }; anchors = anchors }

abbrev refused : Fault → Result (Unit {0}) Fault
refused fault = Err fault

-- where nothing was erased it is as it was
pub rests_undisturbed : (d : Device) (m : System) → IsUndisturbed d m d m
rests_undisturbed d m = record {
  device = record { geometry = refl; worn = λ b is. is; failed_reads = omega arith; cuts = omega arith; was_on = λ on. on; stays_off = λ off. refl };
  history = refl;
  group = refl;
  machine = refl;
  ring = refl;
  pass = refl;
  record_roots = refl;
  remembered = refl;
  room = refl;
  busy_pages = λ p busy. refl;
  newest = Keeps_itself d.geometry d.pages;
  kept = λ p reached. refl;
  record_kept = λ r is p reached. refl;
  saved = refl;
  whole = λ is. is;
  stays_bad = λ b is. is;
  new_bad = λ b now before. absurd (both_ways (set.contains m.state.storage.bad b) before now);
  failures = refl;
}

module _ (d e : Device) (m : System) (bad : set.FinSet nat_cmp) (anchors : Anchors) (anchor : ℕ) (ended : Result (Unit {0}) Fault) (s : IsSystem d m) (on : m.state.is_off ≡ false)
    (blocks : AreDataBlocks m.state.storage.ring.blocks m.state.storage.ring.used) (ahead : ErasesAhead d m.state.storage.bad m.anchors anchor ended e bad anchors) (ready : MayCommit e bad anchors) where
  abbrev n : System
  n = with_anchors m bad anchors

  only : OnlyAnchors d m.state.storage.bad e bad
  only = ahead.erases.changes.only_anchors

  used_page : (p : ℕ) → set.contains m.state.storage.ring.used (block_of d p) ≡ true → e.pages p ≡ d.pages p
  used_page p used = only.data_pages p (blocks (block_of d p) used).0

  -- the anchor is free
  unused : set.contains m.state.storage.ring.used anchor ≡ false
  unused = elim (cases_Bool (set.contains m.state.storage.ring.used anchor)) [
    | inl used ↦ absurd (let high = (blocks anchor used).0 in let is = ahead.wanted.next.is in omega arith)
    | inr free ↦ free
  ]

  free : is_free m.state.storage anchor ≡ true
  free = ap (λ (x : Bool). not (x || set.contains m.state.storage.bad anchor)) unused ∙ ap not ahead.wanted.next.good

  saves : Saves {T = Unit {0}} d m (Err ReadOnly) e n
  saves = record {
    commits = ahead.keeps;
    only_anchors = only;
    used_pages = used_page;
    state = λ i. record m.state { storage = record m.state.storage { bad = bad }; is_off = still_on i };
    writable = tt;
    placed = tt;
    overflow = λ is. absurd (let wrong : ReadOnly ≡ Overflow = same_fault ReadOnly Overflow is in cc);
  }
    where
      still_on : m.state.is_off ≡ (m.state.is_off || false)
      still_on = on ∙ sym (ap (λ (x : Bool). x || false) on)

      same_fault : (x y : Fault) → refused x ≡ refused y → x ≡ y
      same_fault x y is = cc

  as_saved : saved_on e ≡ saved_on d
  as_saved = same_saved d e only.geometry ahead.keeps.newest

  same_remembered : remembered anchors ≡ remembered m.anchors
  same_remembered = ap remembered ahead.anchors

  pub ahead_system : IsSystem e n
  ahead_system =
      is_system d e m n (Err ReadOnly) s saves
      (λ off. absurd (both_ways m.state.is_off on off))
      (λ _. is_newest e bad anchors (λ none. not_none (remembered m.anchors) (s.known on).some (sym same_remembered ∙ none)) ready)
      (λ _ r is. s.roots on r (sym as_saved ∙ is))
      (λ _. still_running d e m n (Err ReadOnly) s saves on refl) refl refl

  record_page : (r : Record) → saved_on d ≡ Some r → (p : ℕ) → Reached (node_of d) (roots_of (history_of r)) (block_of d p) → e.pages p ≡ d.pages p
  record_page r is p there =
      let from_root = reached_from (node_of d) (roots_of (history_of r)) (block_of d p) there in
      used_page p ((s.stands on r is from_root.0 from_root.1).held from_root.0 refl (block_of d p) from_root.2)

  pub ahead_undisturbed : IsUndisturbed d m e n
  ahead_undisturbed = record {
    device = record { geometry = only.geometry; worn = only.worn; failed_reads = only.failed_reads; cuts = only.cuts; was_on = only.was_on; stays_off = only.stays_off };
    history = refl;
    group = refl;
    machine = same_machine d e m n (Err ReadOnly) s saves;
    ring = refl;
    pass = refl;
    record_roots = refl;
    remembered = same_remembered;
    room = refl;
    busy_pages = λ p busy. ahead.erases.changes.others p (λ here. both_ways (is_free m.state.storage anchor) (ap (is_free m.state.storage) (sym here) ∙ busy) free);
    newest = ahead.keeps;
    kept = λ p reached. used_page p ((s.mounted.roots reached.0 reached.1).held reached.0 refl (block_of d p) reached.2);
    record_kept = record_page;
    saved = λ i. option_map (λ (r : Record). map_roots (same_tree d e (same d e m n (Err ReadOnly) s saves) i) (history_of r)) (as_saved i);
    whole = whole_after d e m n (Err ReadOnly) s saves (inl as_saved) on;
    stays_bad = only.stays_bad;
    new_bad = λ b now before. (ap (is_free m.state.storage) (is_anchor b now before) ∙ free, only.bad_worn b now before);
    failures = only.failures;
  }
    where
      listed_one : (answer : Result Bool Fault) (b : ℕ) → bad ≡ list_after m.state.storage.bad anchor answer → set.contains bad b ≡ true → set.contains m.state.storage.bad b ≡ false → b ≡ anchor
      listed_one (Ok true) b is now before = absurd (both_ways (set.contains m.state.storage.bad b) before (ap (λ (x : set.FinSet nat_cmp). set.contains x b) (sym is) ∙ now))
      listed_one (Ok false) b is now before = new_listed m.state.storage.bad anchor b (ap (λ (x : set.FinSet nat_cmp). set.contains x b) (sym is) ∙ now) before
      listed_one (Err fault) b is now before = absurd (both_ways (set.contains m.state.storage.bad b) before (ap (λ (x : set.FinSet nat_cmp). set.contains x b) (sym is) ∙ now))

      is_anchor : (b : ℕ) → set.contains bad b ≡ true → set.contains m.state.storage.bad b ≡ false → b ≡ anchor
      is_anchor b now before = listed_one ahead.done b ahead.erases.changes.list now before

-- ---- the part of a step

-- a refusal tells why: power is off, or read-only mode came
pub answer_writable : (done : Result Bool Fault) (was now : set.FinSet nat_cmp) (anchor : ℕ) (u : Unit {0}) → is_read_only was ≡ false → now ≡ list_after was anchor done → Ok u ≡ erase_answer done now → is_read_only now ≡ false
answer_writable (Ok true) was now anchor u writable list is = ap is_read_only list ∙ writable
answer_writable (Ok false) was now anchor u writable list is = by (is_read_only now) refl
  where
    by : (x : Bool) → is_read_only now ≡ x → is_read_only now ≡ false
    by true full = absurd (let wrong : Ok u ≡ Err ReadOnly = is ∙ ap (λ (x : Bool). if x then Err ReadOnly else Ok tt) full in cc)
    by false good = good
answer_writable (Err fault) was now anchor u writable list is = absurd cc

module _ (d e : Device) (m : System) (bad : set.FinSet nat_cmp) (anchors : Anchors) (budget : ℕ) (result : Result ℕ Fault) (s : IsSystem d m) (on : m.state.is_off ≡ false)
    (blocks : AreDataBlocks m.state.storage.ring.blocks m.state.storage.ring.used) (writable : is_read_only m.state.storage.bad ≡ false) (prepares : PreparesAnchor d m.state.storage.bad m.anchors budget result e bad anchors) (ready : MayCommit e bad anchors) where
  pub anchor_system : IsSystem e (with_anchors m bad anchors)
  anchor_system = elim prepares [
    | inl rests ↦ rw (rests.flash, rests.list, rests.anchors) s
    | inr (some, anchor, ended, tells, ahead) ↦ ahead_system d e m bad anchors anchor ended s on blocks ahead ready
  ]

  pub anchor_undisturbed : IsUndisturbed d m e (with_anchors m bad anchors)
  anchor_undisturbed = elim prepares [
    | inl rests ↦ rw (rests.flash, rests.list, rests.anchors) (rests_undisturbed d m)
    | inr (some, anchor, ended, tells, ahead) ↦ ahead_undisturbed d e m bad anchors anchor ended s on blocks ahead ready
  ]

  pub anchor_prepares : PreparesItsAnchor d m budget result e (with_anchors m bad anchors)
  anchor_prepares = record { anchor = prepares; rest = refl }

  pub anchor_open : OnOk result (is_read_only bad ≡ false)
  anchor_open = elim prepares [
    | inl rests ↦ by_rest result (ap is_read_only rests.list ∙ writable)
    | inr (some, anchor, ended, tells, ahead) ↦ subst (λ (r : Result ℕ Fault). OnOk r (is_read_only bad ≡ false)) (sym tells) (by ended ahead.done anchor ahead.erases.changes.list ahead.answers)
  ]
    where
      by_rest : (r : Result ℕ Fault) → is_read_only bad ≡ false → OnOk r (is_read_only bad ≡ false)
      by_rest (Ok left) is = is
      by_rest (Err fault) is = tt

      by : (ended : Result (Unit {0}) Fault) (done : Result Bool Fault) (anchor : ℕ) → bad ≡ list_after m.state.storage.bad anchor done → ended ≡ erase_answer done bad → OnOk (left_of budget ended) (is_read_only bad ≡ false)
      by (Ok u) done anchor list is = answer_writable done m.state.storage.bad bad anchor u writable list is
      by (Err fault) done anchor list is = tt
