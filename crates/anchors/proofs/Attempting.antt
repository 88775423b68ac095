-- What an attempt to commit a record on an anchor leaves.
use Rattle.std.proofs.Common.{◌≡◌, ◌≢◌, ℕ, ◌+◌, ◌*◌, ◌/◌, ◌%◌, ◌<◌, ◌≤◌, Bool, true, false, cond, List, Option, Some, None, Result, Ok, Err, ◌⊎◌, refl, sym, ap, subst, ◌∙◌, inl, inr, arith}
use Rattle.std.specs.FinSet as set
use Rattle.std.specs.Ordering.{nat_cmp}
use Rattle.std.proofs.lemmas.Bool.{both_ways}
use Rattle.std.proofs.lemmas.Nat.{div-mul-add, mod-mul-add}
use Rattle.fs_types.specs.declared.fault.Fault.{Fault}
use Rattle.fs_types.specs.declared.fault.Fault.TheVariants.{PowerCut}
use Rattle.flash_model.specs.declared.geometry.Geometry.{Geometry}
use Rattle.flash_model.specs.Device.{Device, Page, block_of}
use Rattle.record_format.specs.declared.record.Record.{Record}
use Rattle.record_format.specs.declared.page_head.PageHead.{PageHead}
use Rattle.anchors.specs.declared.best.Found.{Found}
use Rattle.anchors.specs.declared.draft.Draft.{Draft}
use Rattle.anchors.specs.Anchored.{Asked, ChangesAnchor}
use Rattle.anchors.specs.Commit.{Wrote}
use Rattle.anchors.specs.Parts.{RecordBytes}
use Rattle.anchors.specs.Payloads.{Means}
use Rattle.anchors.specs.Programming.{head_for}
use Rattle.anchors.specs.Reading.{IsEnd}
use Rattle.anchors.specs.Keeping.{IsAt, Placed}
use Rattle.anchors.specs.Committing.{IsCommitted, StandsLast, Attempts, Untouched, Attempted, OnNone, answered}
use Rattle.anchors.proofs.Anchoring.{listed_itself, OnlyAnchors_itself}
use Rattle.anchors.proofs.Asking.{Asked_itself, asked_done, asked_failed}
use Rattle.anchors.proofs.Sparing.{Keeps_itself}

if_done : (g : Geometry) (was now : ℕ → Page) (found : Found) (entry : RecordBytes) (done : Bool) → done ≡ true → Placed g was now found entry (Ok done) → IsAt g now found entry
if_done g was now found entry true is placed = placed
if_done g was now found entry false is placed = absurd cc

same_list : (was now : set.FinSet nat_cmp) (anchor : ℕ) (done : Bool) → done ≡ true → now ≡ cond done was (set.insert was anchor) → was ≡ now
same_list was now anchor true is list = sym list
same_list was now anchor false is list = absurd cc

end_of : (g : Geometry) (pages : ℕ → Page) (anchor place count : ℕ) (found : Found) → place < g.pages → found.page ≡ anchor * g.pages + place → found.head.count ≡ count → IsEnd g pages anchor g.pages (place + count)
    → IsEnd g pages (found.page / g.pages) g.pages (found.page % g.pages + found.head.count)
end_of g pages anchor place count found lt page same end =
    let block : found.page / g.pages ≡ anchor = ap (λ p. p / g.pages) page ∙ div-mul-add anchor g.pages place lt in
    let at : found.page % g.pages ≡ place = ap (λ p. p % g.pages) page ∙ mod-mul-add anchor g.pages place lt in
    let sum : found.page % g.pages + found.head.count ≡ place + count = omega arith in
    subst (λ b. IsEnd g pages b g.pages (found.page % g.pages + found.head.count)) (sym block) (subst (λ e. IsEnd g pages anchor g.pages e) (sym sum) end)

-- a record that was placed is committed, and stands there
commits_at : (was now : ℕ → Page) (r : Record) (sequence : ℕ) (before after : set.FinSet nat_cmp) (bytes : List ℕ) (anchor place count : ℕ) (found : Found) (done : Bool)
    → done ≡ true → place < r.geometry.pages → found.page ≡ anchor * r.geometry.pages + place → found.head ≡ head_for r.geometry sequence bytes count 0
    → Placed r.geometry was now (record { page = anchor * r.geometry.pages + place; head = head_for r.geometry sequence bytes count 0 }) (record { sequence = sequence; payload = bytes }) (Ok done)
    → (done ≡ true → IsEnd r.geometry now anchor r.geometry.pages (place + count)) → after ≡ cond done before (set.insert before anchor) → Means r sequence before bytes
    → IsCommitted now r sequence after × StandsLast now r found
commits_at was now r sequence before after bytes anchor place count found done is lt page head placed end list means =
    let at = if_done r.geometry was now (record { page = anchor * r.geometry.pages + place; head = head_for r.geometry sequence bytes count 0 }) (record { sequence = sequence; payload = bytes }) done is placed in
    let here : record { page = anchor * r.geometry.pages + place; head = head_for r.geometry sequence bytes count 0 } ≡ found = λ i. record { page = (sym page) i; head = (sym head) i } in (
      record {
        bytes = bytes;
        newest = at.newest;
        means = subst (λ bad. Means r sequence bad bytes) (same_list before after anchor done is list) means;
        found = record { page = anchor * r.geometry.pages + place; head = head_for r.geometry sequence bytes count 0 };
        place = at.place;
        written = at.written;
      },
      record {
        place = at.place ∙ ap (λ (f : Found). Some f) here;
        end = end_of r.geometry now anchor place count found lt page (ap (λ (h : PageHead). h.count) head) (end is);
      },
    )

-- an anchor that failed is in the list
failed_listed : (was now : set.FinSet nat_cmp) (anchor : ℕ) (done : Bool) → done ≡ false → now ≡ cond done was (set.insert was anchor) → set.contains now anchor ≡ true
failed_listed was now anchor true is list = absurd cc
failed_listed was now anchor false is list = ap (λ s. set.contains s anchor) list ∙ listed_itself was anchor

-- only its pages may have changed
failed_untouched : (old new : Device) (now : set.FinSet nat_cmp) (anchor : ℕ) → set.contains now anchor ≡ true → ((p : ℕ) → block_of old p ≢ anchor → new.pages p ≡ old.pages p) → Untouched old now new
failed_untouched old new now anchor is others p good = others p (λ here. absurd (both_ways (set.contains now anchor) (ap (set.contains now) (sym here) ∙ good) is))

-- ---- attempts that were made

-- where the record may stand
placed_committed : (now : ℕ → Page) (r : Record) (sequence : ℕ) (bad : set.FinSet nat_cmp) (bytes : List ℕ) (page : ℕ) (head : PageHead) → Means r sequence bad bytes
    → IsAt r.geometry now (record { page = page; head = head }) (record { sequence = sequence; payload = bytes }) → IsCommitted now r sequence bad
placed_committed now r sequence bad bytes page head means at = record {
  bytes = bytes;
  newest = at.newest;
  means = means;
  found = record { page = page; head = head };
  place = at.place;
  written = at.written;
}

attempts_cut : (was now : ℕ → Page) (r : Record) (sequence : ℕ) (bad : set.FinSet nat_cmp) (bytes : List ℕ) (page : ℕ) (head : PageHead) (fault : Fault) → fault ≡ PowerCut → Means r sequence bad bytes
    → Placed r.geometry was now (record { page = page; head = head }) (record { sequence = sequence; payload = bytes }) (Err fault) → Attempts was now r sequence bad (Err fault)
attempts_cut was now r sequence bad bytes page head PowerCut is means placed = elim placed [ inl kept ↦ inl kept | inr at ↦ inr (placed_committed now r sequence bad bytes page head means at) ]
attempts_cut was now r sequence bad bytes page head _ is means placed = absurd placed

module _ (old new : Device) (was now : set.FinSet nat_cmp) (r : Record) (anchor place : ℕ) (draft : Draft) (more operations : ℕ) where
  pub attempted : (found : Found) (done : Result Bool Fault) → old.geometry ≡ r.geometry → place < r.geometry.pages → operations ≡ more + draft.count → operations ≤ r.geometry.pages + 1 → set.contains was anchor ≡ false
      → found.page ≡ anchor * r.geometry.pages + place → found.head ≡ head_for r.geometry draft.sequence draft.payload.now draft.count 0 → Means r draft.sequence was draft.payload.now
      → Wrote r.geometry old was new now anchor place operations draft done → Attempted old was new now r draft.sequence anchor place more (answered done found)
  attempted found (Ok true) same lt sum few good page head means wrote = record {
    attempts = commits_at old.pages new.pages r draft.sequence was now draft.payload.now anchor place draft.count found true refl lt page head wrote.placed wrote.end wrote.changes.list means;
    page = page;
    fits = lt;
    list = wrote.changes.list;
    good = good;
    others = wrote.changes.others;
    untouched = tt;
    asked =
        let all : found.head.count ≡ draft.count = ap (λ (h : PageHead). h.count) head in
        subst (Asked old new) (sum ∙ ap (λ n. more + n) (sym all)) (asked_done old new operations true refl wrote.changes.tries);
    tried = tt;
    operations = let most = wrote.changes.operations in omega (arith, few, most);
    only_anchors = wrote.changes.only_anchors;
    why = tt;
  }
  attempted found (Ok false) same lt sum few good page head means wrote = record {
    attempts = wrote.placed;
    page = tt;
    fits = tt;
    list = tt;
    good = tt;
    others = tt;
    untouched = failed_untouched old new now anchor (failed_listed was now anchor false refl wrote.changes.list) wrote.changes.others;
    asked = tt;
    tried =
        let pages : old.geometry.pages ≡ r.geometry.pages = ap (λ (g : Geometry). g.pages) same in
        asked_failed old new operations false refl (omega arith) wrote.changes.tries;
    operations = let most = wrote.changes.operations in omega (arith, few, most);
    only_anchors = wrote.changes.only_anchors;
    why = tt;
  }
  attempted found (Err fault) same lt sum few good page head means wrote = record {
    attempts =
        attempts_cut old.pages new.pages r draft.sequence now draft.payload.now (anchor * r.geometry.pages + place) (head_for r.geometry draft.sequence draft.payload.now draft.count 0) fault wrote.changes.why.0
        (subst (λ bad. Means r draft.sequence bad draft.payload.now) (sym wrote.changes.list) means) wrote.placed;
    page = tt;
    fits = tt;
    list = tt;
    good = tt;
    others = tt;
    untouched = tt;
    asked = tt;
    tried = tt;
    operations = let most = wrote.changes.operations in omega (arith, few, most);
    only_anchors = wrote.changes.only_anchors;
    why = wrote.changes.why;
  }

-- an erase where the anchor is erased anew, and the programs
pub asks_for : (anew : Bool) (count : ℕ) → cond anew (1 + count) count ≡ cond anew 1 0 + count
asks_for true count = refl
asks_for false count = let same : count ≡ 0 + count = omega arith in same

pub asks_few : (anew : Bool) (count pages : ℕ) → count ≤ pages → cond anew (1 + count) count ≤ pages + 1
asks_few true count pages fits = omega arith
asks_few false count pages fits = omega arith

-- an anchor on which nothing was written was put into the list
pub listed : (old new : Device) (was now : set.FinSet nat_cmp) (anchor n : ℕ) (found : Found) (done : Result Bool Fault) → ChangesAnchor old was new now anchor n done → OnNone (answered done found) (set.contains now anchor ≡ true)
listed old new was now anchor n found (Ok true) changes = tt
listed old new was now anchor n found (Ok false) changes = failed_listed was now anchor false refl changes.list
listed old new was now anchor n found (Err fault) changes = tt

-- an anchor that was not tried
pub not_attempted : (d : Device) (bad : set.FinSet nat_cmp) (r : Record) (sequence anchor place more : ℕ) → Attempted d bad d bad r sequence anchor place more (Ok None)
not_attempted d bad r sequence anchor place more = record {
  attempts = Keeps_itself r.geometry d.pages;
  page = tt;
  fits = tt;
  list = tt;
  good = tt;
  others = tt;
  untouched = λ p good. refl;
  asked = tt;
  tried = Asked_itself d;
  operations = omega arith;
  only_anchors = OnlyAnchors_itself d bad;
  why = tt;
}

-- the anchor may be in the list, or have no room
pub lacks_more : (result : Result (Option Found) Fault) (A B : Type 0) → OnNone result A → OnNone result (A ⊎ B)
lacks_more (Ok (Some found)) A B is = tt
lacks_more (Ok None) A B is = inl is
lacks_more (Err fault) A B is = tt
