-- Where a commit begins, and what is remembered after one that was refused.
use Rattle.std.proofs.Common.{◌≡◌, ◌≢◌, ℕ, ◌+◌, ◌*◌, ◌/◌, ◌%◌, ◌<◌, ◌≤◌, ◌^◌, ◌-◌, ◌==◌, Bool, true, false, cond, not, Option, Some, None, Result, Ok, Err, refl, sym, ap, subst, ◌∙◌, inl, inr, arith}
use Rattle.std.specs.Prelude.{IfErr}
use Rattle.std.specs.FinSet as set
use Rattle.std.specs.Ordering.{nat_cmp}
use Rattle.std.proofs.lemmas.Bool.{both_ways, eqb-true, eq-eqb}
use Rattle.std.proofs.lemmas.Nat.{div-mul-add, div_below}
use Rattle.std.proofs.lemmas.Option.{none-some}
use Rattle.std.specs.Option.{option_map}
use Rattle.record_format.specs.Payloads.{payload_at}
use Rattle.fs_types.specs.declared.fault.Fault.{Fault}
use Rattle.fs_types.specs.declared.fault.Fault.TheVariants.{PowerCut, ReadOnly, ReadFailed}
use Rattle.fs_types.specs.declared.limits.TheConstants.{ANCHORS}
use Rattle.flash_model.specs.declared.geometry.Geometry.{Geometry}
use Rattle.flash_model.specs.Geometry.{IsGeometry}
use Rattle.flash_model.specs.Device.{Device, Page, erased, block_of}
use Rattle.flash_model.specs.Reading.{OnlyReads, same_pages}
use Rattle.record_format.specs.declared.record.Record.{Record}
use Rattle.anchors.specs.declared.best.Found.{Found}
use Rattle.anchors.specs.declared.anchors.Anchors.{Anchors}
use Rattle.anchors.specs.Parts.{RecordBytes, Part, part_of, parts_on, best_on, newest_at, newest_on, sequence_of, greatest_on}
use Rattle.anchors.specs.Reading.{IsEnd, PageReadCause}
use Rattle.anchors.specs.Anchored.{OnlyAnchors}
use Rattle.anchors.specs.Keeping.{KeepsNewest, AreOlder, Spares}
use Rattle.anchors.specs.Committing.{IsLowest, Commits, Untouched, IsInVain}
use Rattle.anchors.specs.Remembering.{KnowsNewest, KnowsErased, MayCommit, IsErasedBeside, begins_from, BeginsAt, CommitCause}
use Rattle.anchors.specs.Drafts.{IsBlankFrom}
use Rattle.anchors.specs.Committing.{StandsLast}
use Rattle.anchors.specs.Newest.{remembered, prepared_anchor, KnowsEnd}
use Rattle.anchors.specs.Following.{StillMayCommit, CommittedIsNewest}
use Rattle.anchors.proofs.Following.{was_good}
use Rattle.anchors.proofs.NewestLaws.{found_is_newest, greatest_most, same_place}
use Rattle.anchors.proofs.Places.{anchor_below}
use Rattle.anchors.proofs.Sparing.{Keeps_itself}

at_newest : (g : Geometry) (bad : set.FinSet nat_cmp) (end : ℕ) (o : Option Found) (home place : ℕ) (found : Found) → o ≡ Some found → begins_from g bad end o home place → (home ≡ found.page / g.pages) × (place ≡ end)
at_newest g bad end o home place found is b = subst (λ (o : Option Found). begins_from g bad end o home place) is b

at_lowest : (g : Geometry) (bad : set.FinSet nat_cmp) (end : ℕ) (o : Option Found) (home place : ℕ) → o ≡ None → begins_from g bad end o home place → IsLowest bad home × (place ≡ 0)
at_lowest g bad end o home place is b = subst (λ (o : Option Found). begins_from g bad end o home place) is b

module _ (d : Device) (g : Geometry) (bad : set.FinSet nat_cmp) (anchors : Anchors) (home place : ℕ) (same : d.geometry ≡ g) (lawful : IsGeometry g) (ready : MayCommit d bad anchors) (at : BeginsAt g bad anchors home place) where
  place_on : (k : KnowsNewest d bad anchors) → newest_at g (parts_on g d.pages) ≡ Some k.found
  place_on k = subst (λ (h : Geometry). newest_at h (parts_on h d.pages) ≡ Some k.found) same k.place

  end_on : (k : KnowsNewest d bad anchors) → set.contains bad (k.found.page / g.pages) ≡ false → IsEnd g d.pages (k.found.page / g.pages) g.pages anchors.end
  end_on k = subst (λ (h : Geometry). set.contains bad (k.found.page / h.pages) ≡ false → IsEnd h d.pages (k.found.page / h.pages) h.pages anchors.end) same k.end

  erased_on : KnowsErased d bad anchors → (p : ℕ) → p / g.pages < ANCHORS → set.contains bad (p / g.pages) ≡ false → d.pages p ≡ erased
  erased_on k p = subst (λ (h : Geometry). p / h.pages < ANCHORS → set.contains bad (p / h.pages) ≡ false → d.pages p ≡ erased) same (k.erased p)

  pub begins_below : home < ANCHORS
  begins_below = elim ready [
    | inl k ↦
        let is = at_newest g bad anchors.end anchors.newest home place k.found k.here at in
        subst (λ b. b < ANCHORS) (sym is.0) (anchor_below g k.found.page lawful (found_is_newest g (parts_on g d.pages) k.found (place_on k)).within)
    | inr k ↦ (at_lowest g bad anchors.end anchors.newest home place k.none at).0.below
  ]

  pub begins_within : set.contains bad home ≡ false → place ≤ g.pages
  begins_within good = elim ready [
    | inl k ↦
        let is = at_newest g bad anchors.end anchors.newest home place k.found k.here at in
        let end = end_on k (ap (set.contains bad) (sym is.0) ∙ good) in
        let within = end.within in
        let e = is.1 in
        omega arith
    | inr k ↦ let e = (at_lowest g bad anchors.end anchors.newest home place k.none at).1 in omega arith
  ]

  pub begins_blank : set.contains bad home ≡ false → (m : ℕ) → place ≤ m → m < g.pages → d.pages (home * g.pages + m) ≡ erased
  begins_blank good m from below = elim ready [
    | inl k ↦
        let is = at_newest g bad anchors.end anchors.newest home place k.found k.here at in
        let end = end_on k (ap (set.contains bad) (sym is.0) ∙ good) in
        let after : anchors.end ≤ m = let e = is.1 in omega arith in
        ap (λ b. d.pages (b * g.pages + m)) is.0 ∙ end.blank m after below
    | inr k ↦
        let block : (home * g.pages + m) / g.pages ≡ home = div-mul-add home g.pages m below in
        erased_on k (home * g.pages + m) (subst (λ b. b < ANCHORS) (sym block) begins_below) (ap (set.contains bad) block ∙ good)
  ]

  pub begins_spares : (b : ℕ) → b < ANCHORS → b ≢ home → set.contains bad b ≡ false → Spares g d.pages b
  begins_spares b lt apart good = elim ready [
    | inl k ↦
        let is = at_newest g bad anchors.end anchors.newest home place k.found k.here at in
        inl (k.found, place_on k, λ here. apart (sym here ∙ sym is.0))
    | inr k ↦ inr (λ p here. ap part_of (erased_on k p (subst (λ c. c < ANCHORS) (sym here) lt) (ap (set.contains bad) here ∙ good)))
  ]

-- a sequence above the greatest is above all
pub above_all : (g : Geometry) (old mid : ℕ → Page) (n : ℕ) → mid ≡ old → n ≡ greatest_on g old → AreOlder g mid (n + 1)
above_all g old mid n same is = subst (λ (pages : ℕ → Page). AreOlder g pages (n + 1)) (sym same) (λ q head lt valid. let most = greatest_most g old q head lt valid in omega arith)

best_found : (g : Geometry) (parts : ℕ → Option Part) (found : Found) → newest_at g parts ≡ Some found → (best_on g parts).found ≡ Some found
best_found g parts found is = on (best_on g parts).twice is
  where
    on : (twice : Bool) → cond twice None (best_on g parts).found ≡ Some found → (best_on g parts).found ≡ Some found
    on true e = absurd cc
    on false e = e

-- the sequence of the newest record, whose place is known, is the greatest
pub known_greatest : (d : Device) (g : Geometry) (bad : set.FinSet nat_cmp) (anchors : Anchors) → d.geometry ≡ g → MayCommit d bad anchors → remembered anchors ≢ None → sequence_of (remembered anchors) ≡ greatest_on g d.pages
known_greatest d g bad anchors same ready some = elim ready [
  | inl k ↦
      let place = subst (λ (h : Geometry). newest_at h (parts_on h d.pages) ≡ Some k.found) same k.place in
      ap sequence_of k.here ∙ sym (ap sequence_of (best_found g (parts_on g d.pages) k.found place))
  | inr k ↦ absurd (some k.none)
]

not_false : (b : Bool) → not b ≡ false → b ≡ true
not_false true e = refl
not_false false e = absurd cc

-- whether a sequence is left
pub none_left : (d : Device) (bad : set.FinSet nat_cmp) (anchors : Anchors) (left : Bool) → MayCommit d bad anchors → left ≡ not (sequence_of (remembered anchors) == 2 ^ 64 - 1) → left ≡ false → greatest_on d.geometry d.pages ≡ 2 ^ 64 - 1
none_left d bad anchors left ready tells is =
    let last : sequence_of (remembered anchors) ≡ 2 ^ 64 - 1 = eqb-true _ _ (not_false _ (sym tells ∙ is)) in
    sym (known_greatest d d.geometry bad anchors refl ready (λ none. let clash : 0 ≡ 2 ^ 64 - 1 = sym (ap sequence_of none) ∙ last in omega arith)) ∙ last

pub one_left : (d : Device) (g : Geometry) (bad : set.FinSet nat_cmp) (anchors : Anchors) (left : Bool) → d.geometry ≡ g → MayCommit d bad anchors → left ≡ not (sequence_of (remembered anchors) == 2 ^ 64 - 1) → left ≡ true
    → greatest_on g d.pages ≡ 2 ^ 64 - 1 → remembered anchors ≢ None → ⊥
one_left d g bad anchors left same ready tells is all some = both_ways left (tells ∙ ap not (eq-eqb _ _ (known_greatest d g bad anchors same ready some ∙ all))) is

-- reads alone
pub reads_only_anchors : (d e : Device) (bad : set.FinSet nat_cmp) → OnlyReads d e → OnlyAnchors d bad e bad
reads_only_anchors d e bad reads = record {
  geometry = reads.geometry;
  data_pages = λ p from. reads.pages p;
  stays_bad = λ b is. is;
  bad_anchor = λ b is good. absurd (both_ways (set.contains bad b) good is);
  bad_worn = λ b is good. absurd (both_ways (set.contains bad b) good is);
  worn = λ b was. reads.worn b ∙ was;
  failures = let h = reads.failures in omega arith;
  failed_reads = reads.failed_reads;
  cuts = reads.cuts;
  was_on = reads.was_on;
  stays_off = reads.stays_off;
  list_off = λ off. refl;
}

pub reads_untouched : (d e : Device) (bad : set.FinSet nat_cmp) → OnlyReads d e → Untouched d bad e
reads_untouched d e bad reads p good = reads.pages p

-- ---- after a refusal

pub ends_still : (g : Geometry) (was now : ℕ → Page) (anchor end : ℕ) → ((m : ℕ) → m < g.pages → now (anchor * g.pages + m) ≡ was (anchor * g.pages + m)) → IsEnd g was anchor g.pages end → IsEnd g now anchor g.pages end
ends_still g was now anchor end same is = record {
  within = is.within;
  blank = λ m from below. same m below ∙ is.blank m from below;
  last = λ m at blank. is.last m at (sym (same m (let w = is.within in omega arith)) ∙ blank);
}

-- an anchor that was erased ahead is erased still, where its pages are as they were or it is bad
pub beside_still : (old new : Device) (was now : set.FinSet nat_cmp) (anchors : Anchors) (found : Found) → new.geometry ≡ old.geometry → ((b : ℕ) → set.contains was b ≡ true → set.contains now b ≡ true)
    → ((b : ℕ) → set.contains now b ≡ false → b < ANCHORS → (m : ℕ) → m < old.geometry.pages → new.pages (b * old.geometry.pages + m) ≡ old.pages (b * old.geometry.pages + m))
    → IsErasedBeside old was anchors found → IsErasedBeside new now anchors found
beside_still old new was now anchors found same stays pages before b is =
    let x = before b is in
    subst (λ (h : Geometry). (b ≢ found.page / h.pages) × IsBlankFrom h new.pages now b 0) (sym same) (
      x.0,
      record {
        below = x.1.below;
        within = λ good. omega arith;
        blank = λ good m from lt. pages b good x.1.below m lt ∙ x.1.blank (was_good was now b stays good) m from lt;
      },
    )

kept : (was now : ℕ → Page) (r : Record) (sequence : ℕ) (bad : set.FinSet nat_cmp) (fault : Fault) → fault ≢ PowerCut → Commits {T = Found} was now r sequence bad (Err fault) → KeepsNewest r.geometry was now
kept was now r sequence bad PowerCut on is = absurd (on refl)
kept was now r sequence bad _ on is = is

-- a commit may follow one that was refused while power is on
pub may_follow : (old new : Device) (was now : set.FinSet nat_cmp) (anchors : Anchors) (r : Record) (sequence : ℕ) (fault : Fault) → old.geometry ≡ r.geometry → OnlyAnchors old was new now
    → fault ≢ PowerCut → Commits {T = Found} old.pages new.pages r sequence now (Err fault) → Untouched old now new → MayCommit old was anchors → MayCommit new now anchors
may_follow old new was now anchors r sequence fault same only on is untouched ready =
    let keeps : KeepsNewest old.geometry old.pages new.pages = subst (λ (h : Geometry). KeepsNewest h old.pages new.pages) (sym same) (kept old.pages new.pages r sequence now fault on is) in
    elim ready [
      | inl k ↦ inl (record {
        found = k.found;
        here = k.here;
        place = subst (λ (h : Geometry). newest_at h (parts_on h new.pages) ≡ Some k.found) (sym only.geometry) (keeps.place ∙ k.place);
        end = subst (λ (h : Geometry). set.contains now (k.found.page / h.pages) ≡ false → IsEnd h new.pages (k.found.page / h.pages) h.pages anchors.end) (sym only.geometry) (λ good.
            ends_still old.geometry old.pages new.pages (k.found.page / old.geometry.pages) anchors.end
            (λ m below. untouched (k.found.page / old.geometry.pages * old.geometry.pages + m) (ap (set.contains now) (div-mul-add (k.found.page / old.geometry.pages) old.geometry.pages m below) ∙ good))
            (k.end (was_good was now (k.found.page / old.geometry.pages) only.stays_bad good)));
        prepared = beside_still old new was now anchors k.found only.geometry only.stays_bad (λ b good below m lt.
            untouched (b * old.geometry.pages + m) (ap (set.contains now) (div-mul-add b old.geometry.pages m lt) ∙ good)) k.prepared;
      })
      | inr k ↦ inr (record {
        none = k.none;
        cleared = k.cleared;
        unprepared = k.unprepared;
        erased = λ p lt good.
            let block : block_of old p ≡ block_of new p = sym (ap (λ (h : Geometry). p / h.pages) only.geometry) in
            let still : set.contains now (block_of old p) ≡ false = ap (set.contains now) block ∙ good in
            untouched p still ∙ k.erased p (subst (λ b. b < ANCHORS) (sym block) lt) (was_good was now (block_of old p) only.stays_bad still);
      })
    ]

-- ---- after a commit

module _ (old new : Device) (was now : set.FinSet nat_cmp) (anchors : Anchors) (r : Record) (home place : ℕ) (found : Found) (sizes : old.geometry ≡ r.geometry) (same : new.geometry ≡ old.geometry)
    (stays : (b : ℕ) → set.contains was b ≡ true → set.contains now b ≡ true) (ready : MayCommit old was anchors) (at : BeginsAt r.geometry was anchors home place)
    (others : found.page / r.geometry.pages ≡ home → (p : ℕ) → block_of old p ≢ home → new.pages p ≡ old.pages p) where
  -- an anchor that was erased ahead is erased still, where the record was placed on the anchor on which the commit began
  beside_home : found.page / r.geometry.pages ≡ home → (b : ℕ) → anchors.prepared ≡ Some b → (b ≢ found.page / r.geometry.pages) × IsBlankFrom r.geometry new.pages now b 0
  beside_home here b is = elim ready [
    | inl k ↦
        let began = at_newest r.geometry was anchors.end anchors.newest home place k.found k.here at in
        let x = subst (λ (h : Geometry). (b ≢ k.found.page / h.pages) × IsBlankFrom h old.pages was b 0) sizes (k.prepared b is) in
        let apart : b ≢ home = λ e. x.0 (e ∙ began.0) in (
          λ e. apart (e ∙ here),
          record {
            below = x.1.below;
            within = λ good. omega arith;
            blank = λ good m from lt.
                others here (b * r.geometry.pages + m) (λ e. apart (sym (div-mul-add b r.geometry.pages m lt) ∙ sym (ap (λ (h : Geometry). (b * r.geometry.pages + m) / h.pages) sizes) ∙ e)) ∙ x.1.blank (was_good was now b stays good) m from lt;
          },
        )
    | inr k ↦ absurd (none-some b (sym k.unprepared ∙ is))
  ]

  beside_if : (is_home : Bool) → (found.page / r.geometry.pages == home) ≡ is_home → (b : ℕ) → cond is_home anchors.prepared None ≡ Some b → (b ≢ found.page / r.geometry.pages) × IsBlankFrom r.geometry new.pages now b 0
  beside_if true tells b is = beside_home (eqb-true _ _ tells) b is
  beside_if false tells b is = absurd (none-some b is)

  pub committed_knows : (prepared : Option ℕ) → prepared ≡ cond (found.page / r.geometry.pages == home) anchors.prepared None → StandsLast new.pages r found
      → MayCommit new now (record { newest = Some found; end = found.page % r.geometry.pages + found.head.count; cleared = false; prepared = prepared })
  committed_knows prepared kept stands =
      let last = subst (λ (h : Geometry). (newest_at h (parts_on h new.pages) ≡ Some found) × IsEnd h new.pages (found.page / h.pages) h.pages (found.page % r.geometry.pages + found.head.count)) (sym (same ∙ sizes)) (stands.place, stands.end) in
      inl (record {
        found = found;
        here = refl;
        place = last.0;
        end = λ good. last.1;
        prepared = λ b is. subst (λ (h : Geometry). (b ≢ found.page / h.pages) × IsBlankFrom h new.pages now b 0) (sym (same ∙ sizes)) (beside_if (found.page / r.geometry.pages == home) refl b (sym kept ∙ is));
      })

-- ---- the laws

pub still_may_commit : StillMayCommit
still_may_commit old new was now anchors same pages stays ready = elim ready [
  | inl k ↦
      let g = old.geometry in
      let home = k.found.page / old.geometry.pages in
      let within : k.found.page < ANCHORS * g.pages = (found_is_newest g (parts_on g old.pages) k.found k.place).within in
      let anchor : home < ANCHORS = div_below k.found.page g.pages ANCHORS (omega arith) within in
      let still : (m : ℕ) → m < g.pages → new.pages (home * g.pages + m) ≡ old.pages (home * g.pages + m) =
      λ m below. pages (home * g.pages + m) (subst (λ b. b < ANCHORS) (sym (div-mul-add home g.pages m below)) anchor) in
      inl (record {
        found = k.found;
        here = k.here;
        place = subst (λ (h : Geometry). newest_at h (parts_on h new.pages) ≡ Some k.found) (sym same) (same_place g old.pages new.pages pages ∙ k.place);
        end = subst (λ (h : Geometry). set.contains now (k.found.page / h.pages) ≡ false → IsEnd h new.pages (k.found.page / h.pages) h.pages anchors.end) (sym same) (λ good.
            ends_still g old.pages new.pages home anchors.end still (k.end (was_good was now home stays good)));
        prepared = beside_still old new was now anchors k.found same stays (λ b good below m lt.
            pages (b * g.pages + m) (subst (λ c. c < ANCHORS) (sym (div-mul-add b g.pages m lt)) below)) k.prepared;
      })
  | inr k ↦ inr (record {
    none = k.none;
    cleared = k.cleared;
    unprepared = k.unprepared;
    erased = λ p lt good.
        let block : block_of old p ≡ block_of new p = sym (ap (λ (h : Geometry). p / h.pages) same) in
        let lt_old : block_of old p < ANCHORS = subst (λ b. b < ANCHORS) (sym block) lt in
        pages p lt_old ∙ k.erased p lt_old (was_good was now (block_of old p) stays (ap (set.contains now) block ∙ good));
  })
]

pub committed_is_newest : CommittedIsNewest
committed_is_newest d r sequence bad same is = (
  is.means.list,
  is.means.ascends,
  is.means.listed,
  ap (λ (h : Geometry). option_map (λ (entry : RecordBytes). payload_at h entry.sequence entry.payload) (newest_on h d.pages)) same
      ∙ ap (option_map (λ (entry : RecordBytes). payload_at r.geometry entry.sequence entry.payload)) is.newest
      ∙ ap (λ (x : Result Record Fault). Some x) is.means.means,
)

-- ---- after reads

pub reads_may_commit : (d e : Device) (bad : set.FinSet nat_cmp) (anchors : Anchors) → OnlyReads d e → MayCommit d bad anchors → MayCommit e bad anchors
reads_may_commit d e bad anchors reads ready = still_may_commit d e bad bad anchors reads.geometry (λ p lt. reads.pages p) (λ b is. is) ready

-- by the time that the flash and the list are given back
pub may_commit_then : (new end : Device) (now list : set.FinSet nat_cmp) (anchors : Anchors) → end ≡ new → list ≡ now → MayCommit new now anchors → MayCommit end list anchors
may_commit_then new end now list anchors same listed may = rw (same, listed) may

pub reads_keep : (g : Geometry) (was now : ℕ → Page) → now ≡ was → KeepsNewest g was now
reads_keep g was now same = subst (λ (pages : ℕ → Page). KeepsNewest g was pages) (sym same) (Keeps_itself g was)

pub reads_commit : (d e : Device) (r : Record) (sequence : ℕ) (bad : set.FinSet nat_cmp) (fault : Fault) → OnlyReads d e → Commits {T = Unit {0}} d.pages e.pages r sequence bad (Err fault)
reads_commit d e r sequence bad PowerCut reads = inl (reads_keep r.geometry d.pages e.pages (same_pages reads))
reads_commit d e r sequence bad _ reads = reads_keep r.geometry d.pages e.pages (same_pages reads)

-- the place of the newest record that was read, and where it ends
pub remembers_at : (old mid : Device) (g : Geometry) (found : Option Found) → old.geometry ≡ g → OnlyReads old mid → found ≡ newest_at g (parts_on g mid.pages) → found ≡ newest_at old.geometry (parts_on old.geometry old.pages)
remembers_at old mid g found same reads is =
    is ∙ ap (λ (pages : ℕ → Page). newest_at g (parts_on g pages)) (same_pages reads) ∙ ap (λ (h : Geometry). newest_at h (parts_on h old.pages)) (sym same)

pub knows_end_at : (old later : Device) (g : Geometry) (found : Found) (anchors : Anchors) → old.geometry ≡ g → OnlyReads old later → anchors.newest ≡ Some found → IsEnd g later.pages (found.page / g.pages) g.pages anchors.end → KnowsEnd old anchors
knows_end_at old later g found anchors same reads here end = λ at is.
    let one : found ≡ at = cc in
    let on_pages = subst (λ (pages : ℕ → Page). IsEnd g pages (found.page / g.pages) g.pages anchors.end) (same_pages reads) end in
    let on_flash = subst (λ (h : Geometry). IsEnd h old.pages (found.page / h.pages) h.pages anchors.end) (sym same) on_pages in
    subst (λ (f : Found). IsEnd old.geometry old.pages (f.page / old.geometry.pages) old.geometry.pages anchors.end) one on_flash

pub ready_at : (old new : Device) (bad : set.FinSet nat_cmp) (anchors : Anchors) (found : Found) → OnlyReads old new → anchors.newest ≡ Some found → anchors.newest ≡ newest_at old.geometry (parts_on old.geometry old.pages) → KnowsEnd old anchors
    → prepared_anchor anchors ≡ None → MayCommit new bad anchors
ready_at old new bad anchors found reads here at end none = reads_may_commit old new bad anchors reads (inl (record {
  found = found;
  here = here;
  place = sym at ∙ here;
  end = λ good. end found here;
  prepared = λ b is. absurd (none-some b (sym none ∙ is));
}))

-- why a commit is refused
pub read_commit_cause : (old new : Device) (was : set.FinSet nat_cmp) (anchors : Anchors) (fault : Fault) → remembered anchors ≡ None → OnlyReads old new → PageReadCause old new fault → CommitCause old was anchors new was fault
read_commit_cause old new was anchors ReadFailed none reads cause = (none, cause, (same_pages reads), refl)
read_commit_cause old new was anchors PowerCut none reads cause = cause
read_commit_cause old new was anchors _ none reads cause = absurd cause

pub try_commit_cause : {T : Type 0} (old mid : Device) (was : set.FinSet nat_cmp) (anchors : Anchors) (new : Device) (now : set.FinSet nat_cmp) (result : Result T Fault) → IfErr result (IsInVain mid new now) → IfErr result (CommitCause old was anchors new now)
try_commit_cause old mid was anchors new now (Ok x) vain = tt
try_commit_cause old mid was anchors new now (Err ReadOnly) vain = vain.why
try_commit_cause old mid was anchors new now (Err PowerCut) vain = vain.why
try_commit_cause old mid was anchors new now (Err _) vain = absurd vain.why

pub if_err_each : {T E : Type 0} (result : Result T E) (P : E → Type 0) → ((e : E) → P e) → IfErr result P
if_err_each (Ok x) P each = tt
if_err_each (Err e) P each = each e
