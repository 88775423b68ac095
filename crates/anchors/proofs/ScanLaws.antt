-- The best record, met page by page.
use Rattle.std.proofs.Common.{◌≡◌, ◌≢◌, ◌⊎◌, ℕ, zero, suc, ◌+◌, ◌-◌, ◌*◌, ◌<◌, ◌≤◌, Bool, true, false, cond, ltb, leb, eqb, Option, Some, None, inl, inr, refl, sym, ap, subst, ◌∙◌, arith}
use Rattle.std.specs.Prelude.{◌&&◌, ◌%◌, ◌/◌}
use Rattle.std.specs.FinSet as set
use Rattle.std.specs.Option.{option_map, option_and_then}
use Rattle.std.specs.Ordering.{nat_cmp}
use Rattle.std.proofs.lemmas.Bool.{cases_eq, and_right, lt-ltb, le-leb, ltb-true, leb-true, eqb-true, eq-eqb, ne_eqb, both_ways}
use Rattle.std.proofs.lemmas.Nat.{div-mul-add, mod-mul-add}
use Rattle.fs_types.specs.declared.limits.TheConstants.{ANCHORS}
use Rattle.flash_model.specs.declared.geometry.Geometry.{Geometry}
use Rattle.flash_model.specs.Device.{Device, Page, erased}
use Rattle.flash_model.specs.Reading.{OnlyReads, same_pages}
use Rattle.record_format.specs.declared.page_head.PageHead.{PageHead}
use Rattle.anchors.specs.declared.best.Found.{Found}
use Rattle.anchors.specs.declared.best.Best.{Best}
use Rattle.anchors.specs.declared.scan.Run.{Run}
use Rattle.anchors.specs.declared.scan.Scan.{Scan}
use Rattle.anchors.specs.Parts.{Part, part_of, head_at, is_part, are_parts, is_valid_record, record_head, considered, considered_with, best_below, parts_on, newest_at, pages_of}
use Rattle.anchors.specs.Anchored.{AreErased}
use Rattle.anchors.specs.Scanning.{begun_run, followed, settled, scan_next, IsRun, IsMet}
use Rattle.anchors.proofs.ReadParts.{no_part, parts_start, parts_go_on, parts_stop, parts_end}

-- ---- tests

both : (a b : Bool) → (a && b) ≡ true → (a ≡ true) × (b ≡ true)
both true true e = (refl, refl)
both true false e = absurd cc
both false b e = absurd cc

-- ---- whether a record begins at a page

begins_not : (g : Geometry) (parts : ℕ → Option Part) (p : ℕ) (first : PageHead) → head_at parts p ≡ Some first → is_valid_record g parts p first ≡ false → record_head g parts p ≡ None
begins_not g parts p first at fails = ap (option_and_then (λ h. cond (is_valid_record g parts p h) (Some h) None)) at ∙ ap (λ b. cond b (Some first) None) fails

begins_as : (g : Geometry) (parts : ℕ → Option Part) (p : ℕ) (first : PageHead) → head_at parts p ≡ Some first → is_valid_record g parts p first ≡ true → record_head g parts p ≡ Some first
begins_as g parts p first at passes = ap (option_and_then (λ h. cond (is_valid_record g parts p h) (Some h) None)) at ∙ ap (λ b. cond b (Some first) None) passes

-- the tests of the first n pages
tests_to : (g : Geometry) (parts : ℕ → Option Part) (p : ℕ) (first : PageHead) (n : ℕ) → n ≤ first.count → ((m : ℕ) → m < n → is_part g first m (head_at parts (p + m)) ≡ true)
    → are_parts g parts p first n (first.count - n) ≡ are_parts g parts p first 0 first.count
tests_to g parts p first zero le done = parts_start g parts p first
tests_to g parts p first (suc n) le done =
    let so_far = tests_to g parts p first n (omega arith) (λ m lt. done m (omega arith)) in
    let is : n + 1 ≡ suc n = omega arith in
    subst (λ k. are_parts g parts p first k (first.count - k) ≡ are_parts g parts p first 0 first.count) is
    (parts_go_on g parts p first n (head_at parts (p + n)) (are_parts g parts p first 0 first.count) (omega arith) refl (done n (omega arith)) so_far)

stops_at : (g : Geometry) (parts : ℕ → Option Part) (p : ℕ) (first : PageHead) (n : ℕ) (found : Option PageHead) → n < first.count → ((m : ℕ) → m < n → is_part g first m (head_at parts (p + m)) ≡ true)
    → found ≡ head_at parts (p + n) → is_part g first n found ≡ false → is_valid_record g parts p first ≡ false
stops_at g parts p first n found lt done is fails =
    let stop = parts_stop g parts p first n found (are_parts g parts p first 0 first.count) lt is fails (tests_to g parts p first n (omega arith) done) in
    and_right (ltb 0 first.count) _ (and_right (leb (p % g.pages + first.count) g.pages) (are_parts g parts p first 0 first.count) (sym stop))

all_stand : (g : Geometry) (parts : ℕ → Option Part) (p : ℕ) (first : PageHead) → 0 < first.count → p % g.pages + first.count ≤ g.pages → ((m : ℕ) → m < first.count → is_part g first m (head_at parts (p + m)) ≡ true)
    → is_valid_record g parts p first ≡ true
all_stand g parts p first some fits done =
    let all = parts_end g parts p first first.count (are_parts g parts p first 0 first.count) (omega arith) (tests_to g parts p first first.count (omega arith) done) in
    rw (lt-ltb 0 first.count some, le-leb _ _ fits) (sym all)

-- no record begins at a later page of another
part_index : (g : Geometry) (first head : PageHead) (m : ℕ) → is_part g first m (Some head) ≡ true → head.index ≡ m
part_index g first head m is =
    let a = both (eqb head.sequence first.sequence) _ is in
    let b = both (eqb head.count first.count) _ a.1 in
    eqb-true _ _ (both (eqb head.index m) _ b.1).0

other_index : (g : Geometry) (head : PageHead) → head.index ≢ 0 → is_part g head 0 (Some head) ≡ false
other_index g head apart = rw (eq-eqb head.sequence head.sequence refl, eq-eqb head.count head.count refl, ne_eqb _ _ apart) refl

inner_none : (g : Geometry) (parts : ℕ → Option Part) (first : PageHead) (p m : ℕ) → 1 ≤ m → is_part g first m (head_at parts p) ≡ true → record_head g parts p ≡ None
inner_none g parts first p m some is = on (head_at parts p) refl is
  where
    on : (o : Option PageHead) → head_at parts p ≡ o → is_part g first m o ≡ true → record_head g parts p ≡ None
    on None at is = absurd cc
    on (Some head) at is =
        let index = part_index g first head m is in
        begins_not g parts p head at (elim (cases_eq head.count 0) [
          | inl none ↦ ap (λ n. ltb 0 n && (leb (p % g.pages + head.count) g.pages && are_parts g parts p head 0 head.count)) none
          | inr some_pages ↦
              let here : p ≡ p + 0 = omega arith in
              stops_at g parts p head 0 (Some head) (omega arith) (λ k lt. absurd (omega arith)) (sym at ∙ ap (head_at parts) here) (other_index g head (omega arith))
        ])

-- ---- the best record where none begins

best_next : (g : Geometry) (parts : ℕ → Option Part) (p : ℕ) (head : Option PageHead) → record_head g parts p ≡ head → best_below g parts (p + 1) ≡ considered (best_below g parts p) p head
unfolding best_below
best_next g parts p head is =
    let k : p + 1 ≡ suc p = omega arith in
    ap (best_below g parts) k ∙ ap (considered (best_below g parts p) p) is

best_same : (g : Geometry) (parts : ℕ → Option Part) (p k : ℕ) → ((m : ℕ) → m < k → record_head g parts (p + m) ≡ None) → best_below g parts (p + k) ≡ best_below g parts p
best_same g parts p zero none = let e : p + 0 ≡ p = omega arith in ap (best_below g parts) e
best_same g parts p (suc k) none =
    let e : p + suc k ≡ p + k + 1 = omega arith in
    ap (best_below g parts) e ∙ best_next g parts (p + k) None (none k (omega arith)) ∙ best_same g parts p k (λ m lt. none m (omega arith))

-- no record begins at an erased page, so none on an anchor that is erased
erased_none : (g : Geometry) (pages : ℕ → Page) (p : ℕ) → pages p ≡ erased → record_head g (parts_on g pages) p ≡ None
erased_none g pages p is =
    let none : parts_on g pages p ≡ None = sym (no_part g pages p (ap part_of is)) in
    ap (λ (o : Option Part). option_and_then (λ first. cond (is_valid_record g (parts_on g pages) p first) (Some first) None) (option_map (λ part. part.head) o)) none

pub best_past_erased : (d : Device) (g : Geometry) (bad : set.FinSet nat_cmp) (anchor : ℕ) (best : Best) → d.geometry ≡ g → 1 ≤ g.pages → anchor < ANCHORS → set.contains bad anchor ≡ false → AreErased d bad ANCHORS
    → best ≡ best_below g (parts_on g d.pages) (anchor * g.pages) → best ≡ best_below g (parts_on g d.pages) ((anchor + 1) * g.pages)
best_past_erased d g bad anchor best same some lt good blank is =
    let all : (anchor + 1) * g.pages ≡ anchor * g.pages + g.pages = omega arith in
    is ∙ sym (ap (best_below g (parts_on g d.pages)) all ∙ best_same g (parts_on g d.pages) (anchor * g.pages) g.pages (λ m below. erased_none g d.pages (anchor * g.pages + m) (erased_at m below)))
  where
    erased_at : (m : ℕ) → m < g.pages → d.pages (anchor * g.pages + m) ≡ erased
    erased_at m below =
        let block : (anchor * g.pages + m) / d.geometry.pages ≡ anchor = ap (λ (h : Geometry). (anchor * g.pages + m) / h.pages) same ∙ div-mul-add anchor g.pages m below in
        blank (anchor * g.pages + m) (subst (λ (b : ℕ). b < ANCHORS) (sym block) lt) (ap (set.contains bad) block ∙ good)

module _ (g : Geometry) (parts : ℕ → Option Part) (first n : ℕ) (run : Run) (is : IsRun g parts first n run) where
  abbrev start : ℕ
  start = run.found.page

  later_none : (m : ℕ) → 1 ≤ m → m < run.met → record_head g parts (start + m) ≡ None
  later_none m some lt = inner_none g parts run.found.head (start + m) m some (is.done m lt)

  -- a page that is not the next of the record: none begins there or in it
  broken : (head : Option PageHead) → run.met < run.found.head.count → head ≡ head_at parts n → is_part g run.found.head run.met head ≡ false → best_below g parts n ≡ best_below g parts start
  broken head more at fails =
      let none : record_head g parts start ≡ None =
      begins_not g parts start run.found.head is.begins (stops_at g parts start run.found.head run.met head more is.done (at ∙ ap (head_at parts) (sym is.next)) fails) in
      ap (best_below g parts) (sym is.next) ∙ best_same g parts start run.met (λ m lt. elim (cases_eq m 0) [
        | inl zero_is ↦ ap (λ k. record_head g parts k) (let e : start + m ≡ start = omega arith in e) ∙ none
        | inr some ↦ later_none m (omega arith) lt
      ])

  -- all pages of the record were met
  whole : run.met ≡ run.found.head.count → best_below g parts n ≡ considered (best_below g parts start) start (Some run.found.head)
  whole all =
      let some = is.some in
      let stands : record_head g parts start ≡ Some run.found.head =
      begins_as g parts start run.found.head is.begins (all_stand g parts start run.found.head (omega arith) is.one_block (λ m lt. is.done m (omega arith))) in
      let rest : start + 1 + (run.met - 1) ≡ n = let e = is.next in omega arith in
      ap (best_below g parts) (sym rest)
      ∙ best_same g parts (start + 1) (run.met - 1) (λ m lt. let e : start + 1 + m ≡ start + (m + 1) = omega arith in ap (λ k. record_head g parts k) e ∙ later_none (m + 1) (omega arith) (omega arith))
      ∙ best_next g parts start (Some run.found.head) stands

-- ---- one page more

abbrev settled_by : Bool → Best → Run → Scan
settled_by b best run = cond b (record { best = considered best run.found.page (Some run.found.head); run = None }) (record { best = best; run = Some run })

-- the record whose pages are being met counts once all were
settled_is : (g : Geometry) (parts : ℕ → Option Part) (first n : ℕ) (best : Best) (run : Run) → IsRun g parts first n run → run.met ≤ run.found.head.count → best ≡ best_below g parts run.found.page
    → IsMet g parts first n (settled best (Some run)).best (settled best (Some run)).run
settled_is g parts first n best run is most so_far = on (eqb run.met run.found.head.count) refl
  where
    on : (b : Bool) → eqb run.met run.found.head.count ≡ b → IsMet g parts first n (settled_by b best run).best (settled_by b best run).run
    on true e = ap (λ (x : Best). considered x run.found.page (Some run.found.head)) so_far ∙ sym (whole g parts first n run is (eqb-true _ _ e))
    on false e =
        let apart : run.met ≢ run.found.head.count = λ same. both_ways (eqb run.met run.found.head.count) e (eq-eqb _ _ same) in
        (is, omega arith, so_far)

-- a record that may begin at a page, or none
module _ (g : Geometry) (parts : ℕ → Option Part) (first n : ℕ) (best : Best) (from : first ≤ n) (so_far : best ≡ best_below g parts n) where
  abbrev may_begin : PageHead → Bool
  may_begin head = (ltb 0 head.count && leb (n % g.pages + head.count) g.pages) && is_part g head 0 (Some head)

  abbrev run_of : PageHead → Run
  run_of head = record { found = record { page = n; head = head }; met = 1 }

  none_there : record_head g parts n ≡ None → best ≡ best_below g parts (n + 1)
  none_there none = so_far ∙ sym (best_next g parts n None none)

  not_one : (head : PageHead) → head_at parts n ≡ Some head → (some fits fills : Bool) → ltb 0 head.count ≡ some → leb (n % g.pages + head.count) g.pages ≡ fits → is_part g head 0 (Some head) ≡ fills
      → ((some && fits) && fills) ≡ false → is_valid_record g parts n head ≡ false
  not_one head at true true true a b c fails = absurd cc
  not_one head at true true false a b c fails =
      let here : n ≡ n + 0 = omega arith in
      let lt : 0 < head.count = ltb-true _ _ a in
      stops_at g parts n head 0 (Some head) lt (λ k below. absurd (omega arith)) (sym at ∙ ap (head_at parts) here) c
  not_one head at true false fills a b c fails = and_right (ltb 0 head.count) _ (ap (λ t. t && are_parts g parts n head 0 head.count) b)
  not_one head at false fits fills a b c fails = ap (λ t. t && (leb (n % g.pages + head.count) g.pages && are_parts g parts n head 0 head.count)) a

  one_begins : (head : PageHead) → head_at parts n ≡ Some head → may_begin head ≡ true → IsRun g parts first (n + 1) (run_of head)
  one_begins head at passes =
      let a = both (ltb 0 head.count && leb (n % g.pages + head.count) g.pages) _ passes in
      let b = both (ltb 0 head.count) _ a.0 in
      record {
        from = from;
        next = refl;
        some = omega arith;
        one_block = leb-true _ _ b.1;
        begins = at;
        done = λ m lt.
            let e : 0 ≡ m = omega arith in
            let here : n + 0 ≡ n = omega arith in
            subst (λ k. is_part g head k (head_at parts (n + k)) ≡ true) e (ap (is_part g head 0) (ap (head_at parts) here ∙ at) ∙ a.1);
      }

  begun_is : (head : Option PageHead) → head ≡ head_at parts n → IsMet g parts first (n + 1) (settled best (begun_run g n head)).best (settled best (begun_run g n head)).run
  begun_is None at = none_there (ap (option_and_then (λ h. cond (is_valid_record g parts n h) (Some h) None)) (sym at))
  begun_is (Some head) at = on (may_begin head) refl
    where
      on : (b : Bool) → may_begin head ≡ b → IsMet g parts first (n + 1) (settled best (cond b (Some (run_of head)) None)).best (settled best (cond b (Some (run_of head)) None)).run
      on true passes =
          let some : 0 < head.count = ltb-true _ _ (both (ltb 0 head.count) _ (both (ltb 0 head.count && leb (n % g.pages + head.count) g.pages) _ passes).0).0 in
          settled_is g parts first (n + 1) best (run_of head) (one_begins head (sym at) passes) (omega arith) so_far
      on false fails = none_there (begins_not g parts n head (sym at) (not_one head (sym at) _ _ _ refl refl refl fails))

-- one page of the record that is being met
goes_on : (g : Geometry) (parts : ℕ → Option Part) (first n : ℕ) (run : Run) (head : Option PageHead) → head ≡ head_at parts n → IsRun g parts first n run → is_part g run.found.head run.met head ≡ true
    → IsRun g parts first (n + 1) (record { found = run.found; met = run.met + 1 })
goes_on g parts first n run head at is passes = record {
  from = is.from;
  next = let e = is.next in omega arith;
  some = omega arith;
  one_block = is.one_block;
  begins = is.begins;
  done = λ m lt. elim (cases_eq m run.met) [
    | inl same ↦
        let here : n ≡ run.found.page + run.met = sym is.next in
        subst (λ k. is_part g run.found.head k (head_at parts (run.found.page + k)) ≡ true) (sym same) (ap (is_part g run.found.head run.met) (sym (at ∙ ap (head_at parts) here)) ∙ passes)
    | inr apart ↦ is.done m (omega arith)
  ];
}

pub met_next : (g : Geometry) (parts : ℕ → Option Part) (first n : ℕ) (scan : Scan) (head : Option PageHead) → first ≤ n → head ≡ head_at parts n → IsMet g parts first n scan.best scan.run
    → IsMet g parts first (n + 1) (scan_next g scan n head).best (scan_next g scan n head).run
met_next g parts first n scan head from at is = on scan.run is
  where
    on : (o : Option Run) → IsMet g parts first n scan.best o → IsMet g parts first (n + 1) (settled scan.best (followed g o n head)).best (settled scan.best (followed g o n head)).run
    on None so_far = begun_is g parts first n scan.best from so_far head at
    on (Some run) (is, more, so_far) = by (is_part g run.found.head run.met head) refl
      where
        by : (b : Bool) → is_part g run.found.head run.met head ≡ b
            → IsMet g parts first (n + 1) (settled scan.best (cond b (Some (record { found = run.found; met = run.met + 1 })) (begun_run g n head))).best (settled scan.best (cond b (Some (record { found = run.found; met = run.met + 1 })) (begun_run g n head))).run
        by true passes = settled_is g parts first (n + 1) scan.best (record { found = run.found; met = run.met + 1 }) (goes_on g parts first n run head at is passes) (omega arith) so_far
        by false fails = begun_is g parts first n scan.best from (so_far ∙ sym (broken g parts first n run is head more at fails)) head at

-- ---- the anchors

pub met_begins : (g : Geometry) (parts : ℕ → Option Part) (anchor : ℕ) (best : Best) → best ≡ best_below g parts (anchor * g.pages) → IsMet g parts (anchor * g.pages) (anchor * g.pages + 0) best None
met_begins g parts anchor best is = is ∙ ap (best_below g parts) (let e : anchor * g.pages ≡ anchor * g.pages + 0 = omega arith in e)

-- at the end of an anchor no record goes on
pub met_ends : (g : Geometry) (parts : ℕ → Option Part) (anchor place : ℕ) (best : Best) (o : Option Run) → place ≤ g.pages → g.pages ≤ place → IsMet g parts (anchor * g.pages) (anchor * g.pages + place) best o
    → best ≡ best_below g parts ((anchor + 1) * g.pages)
met_ends g parts anchor place best None most least is = is ∙ ap (best_below g parts) (let e : anchor * g.pages + place ≡ (anchor + 1) * g.pages = omega arith in e)
met_ends g parts anchor place best (Some run) most least (is, more, so_far) =
    let k = run.found.page - anchor * g.pages in
    let from = is.from in
    let ends = is.next in
    let some = is.some in
    let at : run.found.page ≡ anchor * g.pages + k = omega arith in
    let lt : k < g.pages = omega arith in
    let here : run.found.page % g.pages ≡ k = ap (λ p. p % g.pages) at ∙ mod-mul-add anchor g.pages k lt in
    let fits = is.one_block in
    absurd (omega arith)

-- the best record after more pages is what it was, or begins on one of them
abbrev chosen : Best → ℕ → PageHead → Bool → Bool → Best
chosen best p head later same = cond later (record { found = Some (record { page = p; head = head }); twice = false }) (cond same (record { found = best.found; twice = true }) best)

considered_found : (best : Best) (o : Option Found) (p : ℕ) (head : PageHead) → ((considered_with best o p head).found ≡ best.found) ⊎ ((considered_with best o p head).found ≡ Some (record { page = p; head = head }))
considered_found best None p head = inr refl
considered_found best (Some old) p head = on (ltb old.head.sequence head.sequence) (eqb old.head.sequence head.sequence)
  where
    on : (later same : Bool) → ((chosen best p head later same).found ≡ best.found) ⊎ ((chosen best p head later same).found ≡ Some (record { page = p; head = head }))
    on true same = inr refl
    on false true = inl refl
    on false false = inl refl

abbrev IsSince : Geometry → (ℕ → Option Part) → ℕ → ℕ → Type 0
IsSince g parts n k = ((best_below g parts (n + k)).found ≡ (best_below g parts n).found) ⊎ ((found : Found) × ((best_below g parts (n + k)).found ≡ Some found) × (n ≤ found.page) × (found.page < n + k))

since_more : (g : Geometry) (parts : ℕ → Option Part) (n k : ℕ) → IsSince g parts n k → (head : Option PageHead) → record_head g parts (n + k) ≡ head → IsSince g parts n (suc k)
since_more g parts n k since = on
  where
    more : n + k + 1 ≡ n + suc k
    more = omega arith

    earlier : (best_below g parts (n + k + 1)).found ≡ (best_below g parts (n + k)).found → IsSince g parts n (suc k)
    earlier same =
        let kept : (best_below g parts (n + suc k)).found ≡ (best_below g parts (n + k)).found = ap (λ m. (best_below g parts m).found) (sym more) ∙ same in
        elim since [
          | inl was ↦ inl (kept ∙ was)
          | inr later ↦ inr (later.0, kept ∙ later.1, later.2, (let lt = later.3 in omega arith))
        ]

    on : (head : Option PageHead) → record_head g parts (n + k) ≡ head → IsSince g parts n (suc k)
    on None is = earlier (ap (λ (b : Best). b.found) (best_next g parts (n + k) None is))
    on (Some head) is =
        let next_is = ap (λ (b : Best). b.found) (best_next g parts (n + k) (Some head) is) in
        elim (considered_found (best_below g parts (n + k)) (best_below g parts (n + k)).found (n + k) head) [
          | inl same ↦ earlier (next_is ∙ same)
          | inr new ↦ inr (record { page = n + k; head = head }, ap (λ m. (best_below g parts m).found) (sym more) ∙ next_is ∙ new, omega arith, omega arith)
        ]

found_since : (g : Geometry) (parts : ℕ → Option Part) (n k : ℕ) → IsSince g parts n k
found_since g parts n zero = inl (ap (λ m. (best_below g parts m).found) (let e : n + 0 ≡ n = omega arith in e))
found_since g parts n (suc k) = since_more g parts n k (found_since g parts n k) (record_head g parts (n + k)) refl

some_found : (a b : Found) → Some a ≡ Some b → a ≡ b
some_found a b e = cc

-- where the best record is not on an anchor that was gone over, it is the one that it was
pub found_before : (g : Geometry) (parts : ℕ → Option Part) (anchor : ℕ) (was now : Best) (found : Found) → was ≡ best_below g parts (anchor * g.pages) → now ≡ best_below g parts ((anchor + 1) * g.pages)
    → now.found ≡ Some found → found.page / g.pages ≢ anchor → was.found ≡ Some found
found_before g parts anchor was now found was_is now_is at apart =
    let all : anchor * g.pages + g.pages ≡ (anchor + 1) * g.pages = omega arith in
    let here : (best_below g parts (anchor * g.pages + g.pages)).found ≡ Some found = ap (λ m. (best_below g parts m).found) all ∙ ap (λ (b : Best). b.found) (sym now_is) ∙ at in
    elim (found_since g parts (anchor * g.pages) g.pages) [
      | inl same ↦ ap (λ (b : Best). b.found) was_is ∙ sym same ∙ here
      | inr later ↦
          let same : later.0 ≡ found = some_found later.0 found (sym later.1 ∙ here) in
          let k = found.page - anchor * g.pages in
          let low : anchor * g.pages ≤ found.page = subst (λ (f : Found). anchor * g.pages ≤ f.page) same later.2 in
          let high : found.page < anchor * g.pages + g.pages = subst (λ (f : Found). f.page < anchor * g.pages + g.pages) same later.3 in
          let lt : k < g.pages = omega arith in
          let is_at : found.page ≡ anchor * g.pages + k = omega arith in
          absurd (apart (ap (λ p. p / g.pages) is_at ∙ div-mul-add anchor g.pages k lt))
    ]

-- what is asked for in all
pub newest_asks : (old mid new : Device) (g : Geometry) → old.geometry ≡ g → OnlyReads old mid → mid.operations ≤ old.operations + ANCHORS * g.pages → new.operations ≤ mid.operations + pages_of (newest_at g (parts_on g mid.pages))
    → new.operations ≤ old.operations + (ANCHORS * old.geometry.pages + pages_of (newest_at old.geometry (parts_on old.geometry old.pages)))
newest_asks old mid new g same reads first then_on =
    let k : g.pages ≡ old.geometry.pages = ap (λ (h : Geometry). h.pages) (sym same) in
    let record_pages : pages_of (newest_at g (parts_on g mid.pages)) ≡ pages_of (newest_at old.geometry (parts_on old.geometry old.pages)) =
    ap (λ (pages : ℕ → Page). pages_of (newest_at g (parts_on g pages))) (same_pages reads) ∙ ap (λ (h : Geometry). pages_of (newest_at h (parts_on h old.pages))) (sym same) in
    omega arith
