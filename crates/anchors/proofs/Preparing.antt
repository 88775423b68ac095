-- The anchor that is erased ahead.
use Rattle.std.proofs.Common.{◌≡◌, ◌≢◌, ℕ, ◌+◌, ◌*◌, ◌/◌, ◌%◌, ◌<◌, ◌≤◌, Bool, true, false, Option, Some, None, Result, Ok, Err, refl, sym, ap, subst, ◌∙◌, inl, inr, arith}
use Rattle.std.specs.Prelude.{IfOk}
use Rattle.std.specs.FinSet as set
use Rattle.std.specs.Ordering.{nat_cmp}
use Rattle.std.proofs.lemmas.Bool.{both_ways, cases_lt, cases_order, le-ltb, lt-ltb}
use Rattle.std.proofs.lemmas.Nat.{div-mul-add}
use Rattle.std.proofs.lemmas.Option.{none-some}
use Rattle.fs_types.specs.declared.fault.Fault.{Fault}
use Rattle.fs_types.specs.declared.limits.TheConstants.{ANCHORS}
use Rattle.flash_model.specs.declared.geometry.Geometry.{Geometry}
use Rattle.flash_model.specs.Geometry.{IsGeometry}
use Rattle.flash_model.specs.Device.{Device, Page, erased, block_of}
use Rattle.anchors.specs.declared.best.Found.{Found}
use Rattle.anchors.specs.declared.anchors.Anchors.{Anchors}
use Rattle.anchors.specs.Anchored.{ErasesAnchor}
use Rattle.anchors.specs.Committing.{IsNextAnchor}
use Rattle.anchors.specs.Drafts.{IsBlankFrom}
use Rattle.anchors.specs.Keeping.{KeepsNewest}
use Rattle.anchors.specs.Newest.{remembered}
use Rattle.anchors.specs.Parts.{Part, part_of, parts_on, record_head, newest_at, newest_among, sequence_of}
use Rattle.anchors.specs.Preparing.{ErasesAhead, IsWanted, IsWithin, erase_answer, prepared_after}
use Rattle.anchors.specs.Reading.{IsEnd}
use Rattle.anchors.specs.Remembering.{KnowsNewest, MayCommit}
use Rattle.anchors.proofs.Beginning.{ends_still, known_greatest}
use Rattle.anchors.proofs.Following.{was_good}
use Rattle.anchors.proofs.NewestLaws.{found_is_newest}
use Rattle.anchors.proofs.Places.{anchor_below}
use Rattle.anchors.proofs.Sparing.{erase_keeps}

-- ---- anchors that stay

part_stays : (g : Geometry) (old new : ℕ → Page) → ((p : ℕ) → p / g.pages < ANCHORS → new p ≡ old p) → (p : ℕ) → parts_on g new p ≡ parts_on g old p
part_stays g old new same p = elim (cases_lt (p / g.pages) ANCHORS) [
  | inl lt ↦ rw (lt-ltb _ _ lt) (ap part_of (same p lt))
  | inr le ↦ rw (le-ltb _ _ le) refl
]

-- where no page of an anchor changes the newest record is what it was
pub anchors_keep : (g : Geometry) (old new : ℕ → Page) → ((p : ℕ) → p / g.pages < ANCHORS → new p ≡ old p) → KeepsNewest g old new
anchors_keep g old new same =
    let parts : parts_on g new ≡ parts_on g old = λ i p. part_stays g old new same p i in
    record {
      heads = λ q head valid. sym (ap (λ (x : ℕ → Option Part). record_head g x q) parts) ∙ valid;
      place = ap (newest_at g) parts;
      newest = ap (newest_among g) parts;
    }

-- ---- the next anchor

-- there is one at most
steps_one : (bad : set.FinSet nat_cmp) (home m n : ℕ) → 1 ≤ m → set.contains bad ((home + m) % ANCHORS) ≡ false → ((k : ℕ) → 1 ≤ k → k < n → set.contains bad ((home + k) % ANCHORS) ≡ true) → n ≤ m
steps_one bad home m n some good between = elim (cases_order n m) [
  | inl same ↦ omega arith
  | inr (inl less) ↦ omega arith
  | inr (inr more) ↦ absurd (both_ways (set.contains bad ((home + m) % ANCHORS)) good (between m some more))
]

pub next_one : (bad : set.FinSet nat_cmp) (home a b : ℕ) → IsNextAnchor bad home a → IsNextAnchor bad home b → a ≡ b
next_one bad home a b x y =
    let low = steps_one bad home x.steps y.steps x.some (ap (set.contains bad) (sym x.is) ∙ x.good) y.between in
    let high = steps_one bad home y.steps x.steps y.some (ap (set.contains bad) (sym y.is) ∙ y.good) x.between in
    let same : x.steps ≡ y.steps = omega arith in
    x.is ∙ ap (λ k. (home + k) % ANCHORS) same ∙ sym y.is

-- it is another one
pub next_apart : (bad : set.FinSet nat_cmp) (home anchor : ℕ) → home < ANCHORS → IsNextAnchor bad home anchor → anchor ≢ home
next_apart bad home anchor lt next same = let is = next.is in let least = next.some in let most = next.below in absurd (omega arith)

next_below : (bad : set.FinSet nat_cmp) (home anchor : ℕ) → IsNextAnchor bad home anchor → anchor < ANCHORS
next_below bad home anchor next = let is = next.is in omega arith

pub same_found : (a b : Found) → Some a ≡ Some b → a ≡ b
same_found a b e = cc

same_anchor : (a b : ℕ) → Some a ≡ Some b → a ≡ b
same_anchor a b e = cc

-- the newest record is on an anchor
pub newest_within : (d : Device) (bad : set.FinSet nat_cmp) (anchors : Anchors) → IsGeometry d.geometry → MayCommit d bad anchors → IsWithin d.geometry anchors
newest_within d bad anchors lawful ready found here = elim ready [
  | inl k ↦
      let same = same_found k.found found (sym k.here ∙ here) in
      subst (λ (f : Found). f.page / d.geometry.pages < ANCHORS) same (anchor_below d.geometry k.found.page lawful (found_is_newest d.geometry (parts_on d.geometry d.pages) k.found k.place).within)
  | inr k ↦ absurd (none-some found (sym k.none ∙ here))
]

-- ---- its erase

module _ (old new : Device) (was now : set.FinSet nat_cmp) (anchors : Anchors) (anchor : ℕ) (lawful : IsGeometry old.geometry) (ready : MayCommit old was anchors) (wanted : IsWanted old.geometry was anchors anchor)
    (done : Result Bool Fault) (erases : ErasesAnchor old was new now anchor done) where
  abbrev g : Geometry
  g = old.geometry

  newest : KnowsNewest old was anchors
  newest = elim ready [ inl k ↦ k | inr k ↦ absurd (none-some wanted.found (sym k.none ∙ wanted.here)) ]

  abbrev home : ℕ
  home = newest.found.page / g.pages

  next : IsNextAnchor was home anchor
  next = subst (λ (f : Found). IsNextAnchor was (f.page / g.pages) anchor) (same_found wanted.found newest.found (sym wanted.here ∙ newest.here)) wanted.next

  apart : anchor ≢ home
  apart = next_apart was home anchor (newest_within old was anchors lawful ready newest.found newest.here) next

  same : new.geometry ≡ g
  same = erases.changes.only_anchors.geometry

  still : (b : ℕ) → b ≢ anchor → (m : ℕ) → m < g.pages → new.pages (b * g.pages + m) ≡ old.pages (b * g.pages + m)
  still b other m lt = erases.changes.others (b * g.pages + m) (λ here. other (sym (div-mul-add b g.pages m lt) ∙ here))

  pub keeps : KeepsNewest g old.pages new.pages
  keeps = erase_keeps g old.pages new.pages anchor erases.changes.others erases.fades (inl (newest.found, newest.place, λ here. apart (sym here)))

  beside_was : (b : ℕ) → anchors.prepared ≡ Some b → (b ≢ home) × IsBlankFrom g new.pages now b 0
  beside_was b is =
      let x = newest.prepared b is in
      let other : b ≢ anchor = λ e. wanted.unprepared (is ∙ ap (λ (n : ℕ). Some n) e) in (
        x.0,
        record {
          below = x.1.below;
          within = λ good. omega arith;
          blank = λ good m from lt. still b other m lt ∙ x.1.blank (was_good was now b erases.changes.only_anchors.stays_bad good) m from lt;
        },
      )

  beside : (ended : Result Bool Fault) → ended ≡ done → (b : ℕ) → prepared_after anchors.prepared anchor ended ≡ Some b → (b ≢ home) × IsBlankFrom g new.pages now b 0
  beside (Ok true) is b kept =
      let here : anchor ≡ b = same_anchor anchor b kept in
      subst (λ (n : ℕ). (n ≢ home) × IsBlankFrom g new.pages now n 0) here (
        apart,
        record {
          below = next_below was home anchor next;
          within = λ good. omega arith;
          blank = λ good m from lt. erased_done done erases.erased is (anchor * g.pages + m) (div-mul-add anchor g.pages m lt);
        },
      )
    where
      erased_done : (e : Result Bool Fault) → IfOk e (λ t. t ≡ true → (p : ℕ) → block_of old p ≡ anchor → new.pages p ≡ erased) → Ok true ≡ e → (p : ℕ) → block_of old p ≡ anchor → new.pages p ≡ erased
      erased_done (Ok true) own is = own refl
      erased_done (Ok false) own is = absurd cc
      erased_done (Err fault) own is = absurd cc
  beside (Ok false) is b kept = beside_was b kept
  beside (Err fault) is b kept = beside_was b kept

  pub knows_then : (after : Anchors) → after ≡ record anchors { prepared = prepared_after anchors.prepared anchor done } → KnowsNewest new now after
  knows_then after is = subst (KnowsNewest new now) (sym is) (record {
    found = newest.found;
    here = newest.here;
    place = subst (λ (h : Geometry). newest_at h (parts_on h new.pages) ≡ Some newest.found) (sym same) (keeps.place ∙ newest.place);
    end = subst (λ (h : Geometry). set.contains now (newest.found.page / h.pages) ≡ false → IsEnd h new.pages (newest.found.page / h.pages) h.pages anchors.end) (sym same) (λ good.
        ends_still g old.pages new.pages home anchors.end (still home (λ e. apart (sym e))) (newest.end (was_good was now home erases.changes.only_anchors.stays_bad good)));
    prepared = λ b kept. subst (λ (h : Geometry). (b ≢ newest.found.page / h.pages) × IsBlankFrom h new.pages now b 0) (sym same) (beside done refl b kept);
  })

  pub erased_ahead : (after : Anchors) → after ≡ record anchors { prepared = prepared_after anchors.prepared anchor done } → (result : Result (Unit {0}) Fault) → result ≡ erase_answer done now → ErasesAhead old was anchors anchor result new now after
  erased_ahead after is result tells = record {
    wanted = wanted;
    done = done;
    erases = erases;
    answers = tells;
    anchors = is;
    keeps = keeps;
    sequence =
        let some : remembered anchors ≢ None = λ none. none-some newest.found (sym none ∙ newest.here) in
        let then : remembered after ≡ remembered anchors = ap remembered is in
        sym (known_greatest new new.geometry now after refl (inl (knows_then after is)) (λ none. some (sym then ∙ none))) ∙ ap sequence_of then ∙ known_greatest old old.geometry was anchors refl ready some;
  }
