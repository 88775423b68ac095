-- Attempts on one anchor after the other.
use Rattle.std.proofs.Common.{◌≡◌, ◌≢◌, ◌⊎◌, ℕ, zero, suc, ◌+◌, ◌-◌, ◌*◌, ◌/◌, ◌%◌, ◌<◌, ◌≤◌, Bool, true, false, cond, Some, None, Result, Ok, Err, refl, sym, ap, subst, ◌∙◌, inl, inr, arith, leb}
use Rattle.std.specs.Prelude.{count_by, IfErr}
use Rattle.std.specs.List.{range_with_len}
use Rattle.std.specs.FinSet as set
use Rattle.std.specs.Ordering.{nat_cmp}
use Rattle.std.proofs.lemmas.Bool.{cases_Bool, cases_eq, cases_order, both_ways, le-leb, or_right}
use Rattle.std.proofs.Math.Nat.{mul-le-mul_right}
use Rattle.std.proofs.lemmas.List.Sums.{sum_by-cons}
use Rattle.std.proofs.lemmas.Nat.{div-mul-add}
use Rattle.fs_types.specs.declared.fault.Fault.{Fault}
use Rattle.fs_types.specs.declared.fault.Fault.TheVariants.{ReadOnly, PowerCut}
use Rattle.fs_types.specs.declared.limits.TheConstants.{ANCHORS}
use Rattle.flash_model.specs.declared.geometry.Geometry.{Geometry}
use Rattle.flash_model.specs.Geometry.{IsGeometry}
use Rattle.flash_model.specs.Device.{Device, Page, block_of}
use Rattle.bad_blocks.specs.Mode.{bad_anchors, is_read_only}
use Rattle.record_format.specs.declared.record.Record.{Record}
use Rattle.anchors.specs.declared.best.Found.{Found}
use Rattle.anchors.specs.declared.commit.Commit.{Commit}
use Rattle.anchors.specs.declared.commit.Start.{Start}
use Rattle.anchors.specs.Commit.{IsReady, IsSameCommit, MayStart, MayBegin, IsStep, Leaves}
use Rattle.anchors.specs.Parts.{part_of}
use Rattle.anchors.specs.Anchored.{OnlyAnchors, IsPowerCut, Asked}
use Rattle.anchors.specs.Keeping.{KeepsNewest, AreOlder, Spares}
use Rattle.anchors.specs.Committing.{Suits, IsCommitted, Attempts, Attempted, Commits, Untouched, IsInVain, TryCause, IsNextAnchor, LacksRoom, StandsFrom, anchor_after}
use Rattle.anchors.proofs.Places.{anchor_on_flash}
use Rattle.anchors.proofs.Anchoring.{OnlyAnchors_itself, OnlyAnchors_on}
use Rattle.anchors.proofs.Asking.{Asked_itself, Asked_later, asked_alone, next_tried, other_anchor}
use Rattle.anchors.proofs.Sparing.{Keeps_itself, Keeps_on}

-- a block that is not in the list was not before
pub was_good : (was now : set.FinSet nat_cmp) (b : ℕ) → ((c : ℕ) → set.contains was c ≡ true → set.contains now c ≡ true) → set.contains now b ≡ false → set.contains was b ≡ false
was_good was now b stays good = elim (cases_Bool (set.contains was b)) [ inl is ↦ absurd (both_ways (set.contains now b) good (stays b is)) | inr not ↦ not ]

pub Untouched_on : (d e f : Device) (was mid now : set.FinSet nat_cmp) → OnlyAnchors d was e mid → OnlyAnchors e mid f now → Untouched d mid e → Untouched e now f → Untouched d now f
Untouched_on d e f was mid now first next a b p good =
    let block : block_of e p ≡ block_of d p = ap (λ (g : Geometry). p / g.pages) first.geometry in
    b p (ap (set.contains now) block ∙ good) ∙ a p (was_good mid now (block_of d p) next.stays_bad good)

spares_on : (g : Geometry) (was now : ℕ → Page) (b : ℕ) → KeepsNewest g was now → ((p : ℕ) → p / g.pages ≡ b → now p ≡ was p) → Spares g was b → Spares g now b
spares_on g was now b keeps same spares = elim spares [
  | inl other ↦ inl (other.0, keeps.place ∙ other.1, other.2)
  | inr blank ↦ inr (λ p here. ap part_of (same p here) ∙ blank p here)
]

-- an anchor that is not bad is spared still
pub spared : (old new : Device) (was now : set.FinSet nat_cmp) (g : Geometry) (b : ℕ) → old.geometry ≡ g → OnlyAnchors old was new now → KeepsNewest g old.pages new.pages → Untouched old now new
    → (set.contains was b ≡ false → Spares g old.pages b) → set.contains now b ≡ false → Spares g new.pages b
spared old new was now g b same only keeps untouched spares good =
    spares_on g old.pages new.pages b keeps
    (λ p here. untouched p (ap (set.contains now) (ap (λ (h : Geometry). p / h.pages) same ∙ here) ∙ good))
    (spares (was_good was now b only.stays_bad good))

pub older_on : (g : Geometry) (was now : ℕ → Page) (sequence : ℕ) → KeepsNewest g was now → AreOlder g was sequence → AreOlder g now sequence
older_on g was now sequence keeps older q head lt valid = older q head lt (keeps.heads q head valid)

-- where power went in an attempt
pub cut_attempt : (was now : ℕ → Page) (r : Record) (sequence : ℕ) (bad : set.FinSet nat_cmp) (fault : Fault) → Attempts was now r sequence bad (Err fault)
    → KeepsNewest r.geometry was now ⊎ IsCommitted now r sequence bad
cut_attempt was now r sequence bad PowerCut is = is
cut_attempt was now r sequence bad _ is = absurd is

pub either_on : (a b c : ℕ → Page) (r : Record) (sequence : ℕ) (bad : set.FinSet nat_cmp) → KeepsNewest r.geometry a b → KeepsNewest r.geometry b c ⊎ IsCommitted c r sequence bad → KeepsNewest r.geometry a c ⊎ IsCommitted c r sequence bad
either_on a b c r sequence bad keeps is = elim is [ inl kept ↦ inl (Keeps_on r.geometry a b c keeps kept) | inr committed ↦ inr committed ]

pub Commits_on : {T : Type 0} → (a b c : ℕ → Page) (r : Record) (sequence : ℕ) (bad : set.FinSet nat_cmp) (result : Result T Fault) → KeepsNewest r.geometry a b → Commits b c r sequence bad result → Commits a c r sequence bad result
Commits_on a b c r sequence bad (Ok t) keeps is = is
Commits_on a b c r sequence bad (Err PowerCut) keeps is = either_on a b c r sequence bad keeps is
Commits_on a b c r sequence bad (Err _) keeps is = Keeps_on r.geometry a b c keeps is

-- where power went no anchor took the record
pub cut_in_vain : (old new : Device) (bad : set.FinSet nat_cmp) (fault : Fault) → IsPowerCut new fault → IsInVain old new bad fault
cut_in_vain old new bad fault cut = record {
  why = subst (TryCause new bad) (sym cut.0) cut.1;
  untouched = λ on. absurd (on cut.0);
}

-- where the second attempt was in vain too
pub in_vain_on : {T : Type 0} → (d e f : Device) (was mid now : set.FinSet nat_cmp) (result : Result T Fault) → OnlyAnchors d was e mid → OnlyAnchors e mid f now → Untouched d mid e
    → IfErr result (IsInVain e f now) → IfErr result (IsInVain d f now)
in_vain_on d e f was mid now (Ok t) first next a b = tt
in_vain_on d e f was mid now (Err fault) first next a b = record {
  why = b.why;
  untouched = λ on. Untouched_on d e f was mid now first next a (b.untouched on);
}

-- by the time that the flash and the list are given back
pub in_vain_untouched : {T : Type 0} → (old new : Device) (pages : ℕ → Page) (bad list : set.FinSet nat_cmp) (result : Result T Fault) → ((p : ℕ) → pages p ≡ new.pages p) → list ≡ bad → IfErr result (IsInVain old new bad)
    → IfErr result (λ fault. fault ≢ PowerCut → (p : ℕ) → set.contains list (block_of old p) ≡ false → pages p ≡ old.pages p)
in_vain_untouched old new pages bad list (Ok t) same listed vain = tt
in_vain_untouched old new pages bad list (Err fault) same listed vain = λ on p good. same p ∙ vain.untouched on p (ap (λ bads. set.contains bads (block_of old p)) (sym listed) ∙ good)

-- ---- the ring

pub next_is : (was now : set.FinSet nat_cmp) (home step : ℕ) → now ≡ was → 1 ≤ step → step < ANCHORS → set.contains was (anchor_after home step) ≡ false
    → ((k : ℕ) → 1 ≤ k → k < step → set.contains was (anchor_after home k) ≡ true) → IsNextAnchor now home (anchor_after home step)
next_is was now home step same some lt good tried = record {
  steps = step;
  some = some;
  below = lt;
  is = refl;
  good = ap (λ s. set.contains s (anchor_after home step)) same ∙ good;
  between = λ k from below. ap (λ s. set.contains s (anchor_after home k)) same ∙ tried k from below;
}

one_counts : (p : ℕ → Bool) (s n : ℕ) → p s ≡ true → count_by p (range_with_len s (suc n)) ≡ 1 + count_by p (range_with_len (s + 1) n)
one_counts p s n is = sum_by-cons (λ x. cond (p x) 1 0) s (range_with_len (s + 1) n) ∙ ap (λ b. cond b 1 0 + count_by p (range_with_len (s + 1) n)) is

rest_counts : (p : ℕ → Bool) (s n : ℕ) → count_by p (range_with_len (s + 1) n) ≤ count_by p (range_with_len s (suc n))
rest_counts p s n = let e = sum_by-cons (λ x. cond (p x) 1 0) s (range_with_len (s + 1) n) in omega arith

all_pass : (p : ℕ → Bool) (s n : ℕ) → ((b : ℕ) → s ≤ b → b < s + n → p b ≡ true) → n ≤ count_by p (range_with_len s n)
all_pass p s zero each = omega arith
all_pass p s (suc n) each =
    let rest = all_pass p (s + 1) n (λ b from below. each b (omega arith) (omega arith)) in
    let one = one_counts p s n (each s (omega arith) (omega arith)) in
    omega arith

others_pass : (p : ℕ → Bool) (home s n : ℕ) → ((b : ℕ) → s ≤ b → b < s + n → b ≢ home → p b ≡ true) → n ≤ count_by p (range_with_len s n) + 1
others_pass p home s zero each = omega arith
others_pass p home s (suc n) each = elim (cases_eq s home) [
  | inl here ↦
      let rest = all_pass p (s + 1) n (λ b from below. each b (omega arith) (omega arith) (λ e. absurd (omega arith))) in
      let more = rest_counts p s n in
      omega arith
  | inr apart ↦
      let rest = others_pass p home (s + 1) n (λ b from below. each b (omega arith) (omega arith)) in
      let one = one_counts p s n (each s (omega arith) (omega arith) apart) in
      omega arith
]

-- each other anchor comes after one in ring order
in_ring : (home b : ℕ) → home < ANCHORS → b < ANCHORS → b ≢ home → (k : ℕ) × (1 ≤ k) × (k < ANCHORS) × (anchor_after home k ≡ b)
in_ring home b lt below apart = elim (cases_order home b) [
  | inl same ↦ absurd (apart (sym same))
  | inr (inl more) ↦ (b - home, omega arith, omega arith, omega arith)
  | inr (inr less) ↦ (b + ANCHORS - home, omega arith, omega arith, omega arith)
]

-- nothing is committed where all other anchors are bad
pub all_tried : (bad : set.FinSet nat_cmp) (home : ℕ) → home < ANCHORS → ((k : ℕ) → 1 ≤ k → k < ANCHORS → set.contains bad (anchor_after home k) ≡ true) → is_read_only bad ≡ true
all_tried bad home lt tried =
    let most = others_pass (set.contains bad) home 0 ANCHORS (λ b from below apart. let at = in_ring home b lt (omega arith) apart in ap (set.contains bad) (sym at.3) ∙ tried at.0 at.1 at.2) in
    or_right (leb 256 (set.len bad)) (leb 7 (bad_anchors bad)) (le-leb 7 (bad_anchors bad) (omega arith))

-- blocks that enter the list are anchors
on_flash_still : (old new : Device) (was now : set.FinSet nat_cmp) (g : Geometry) → IsGeometry g → OnlyAnchors old was new now → ((b : ℕ) → set.contains was b ≡ true → b < g.blocks) → (b : ℕ) → set.contains now b ≡ true → b < g.blocks
on_flash_still old new was now g lawful only on b is = elim (cases_Bool (set.contains was b)) [
  | inl before ↦ on b before
  | inr good ↦ anchor_on_flash g b lawful (only.bad_anchor b is good)
]

pub suits_still : (old new : Device) (was now : set.FinSet nat_cmp) (r : Record) → OnlyAnchors old was new now → Suits old was r → Suits new now r
suits_still old new was now r only suits = record {
  same = only.geometry ∙ suits.same;
  lawful = suits.lawful;
  is_lawful = suits.is_lawful;
  on_flash = on_flash_still old new was now r.geometry suits.lawful only suits.on_flash;
}

pub anchor_of_ring : (n : ℕ) → n % ANCHORS < ANCHORS
anchor_of_ring n = omega arith

-- ---- one attempt after the other

-- of the attempts before a step none took the record
pub record TriedBefore (old : Device) (was : set.FinSet nat_cmp) (mid : Device) (between : set.FinSet nat_cmp) (r : Record) (home place step : ℕ) : Type 0 where
  pub first : step ≡ 0 → (mid ≡ old) × (between ≡ was)
  pub only_anchors : OnlyAnchors old was mid between
  pub asked : Asked old mid 0
  pub operations : mid.operations ≤ old.operations + step * (r.geometry.pages + 1)
  pub keeps : KeepsNewest r.geometry old.pages mid.pages
  pub untouched : Untouched old between mid
  pub lacks : 1 ≤ step → (set.contains between home ≡ true) ⊎ LacksRoom r was place
  pub tried : (k : ℕ) → 1 ≤ k → k < step → set.contains between (anchor_after home k) ≡ true

pub none_tried : (d : Device) (bad : set.FinSet nat_cmp) (r : Record) (home place : ℕ) → TriedBefore d bad d bad r home place 0
none_tried d bad r home place = record {
  first = λ none. (refl, refl);
  only_anchors = OnlyAnchors_itself d bad;
  asked = Asked_itself d;
  operations = omega arith;
  keeps = Keeps_itself r.geometry d.pages;
  untouched = λ p good. refl;
  lacks = λ some. absurd (omega arith);
  tried = λ k some below. absurd (omega arith);
}

module _ (old : Device) (was : set.FinSet nat_cmp) (mid : Device) (between : set.FinSet nat_cmp) (r : Record) (home place step : ℕ) (so_far : TriedBefore old was mid between r home place step) where
  -- read-only mode came
  pub full_leaves : (sequence : ℕ) → step ≤ ANCHORS → is_read_only between ≡ true → Leaves {T = Found} old was mid between r sequence (Err ReadOnly)
  full_leaves sequence few full = record {
    commits = so_far.keeps;
    only_anchors = so_far.only_anchors;
    operations = let most : step * (r.geometry.pages + 1) ≤ ANCHORS * (r.geometry.pages + 1) = mul-le-mul_right (r.geometry.pages + 1) few in let h = so_far.operations in omega (arith, most, h);
    in_vain = record { why = full; untouched = λ on. so_far.untouched };
  }

  module _ (start : Start) (at : IsStep home place step start) where
    -- the next attempt may be made
    pub begins : old.geometry ≡ r.geometry → step < ANCHORS → MayStart r.geometry old.pages was home place → MayBegin r.geometry mid.pages between start
    begins same lt may = elim (cases_eq step 0) [
      | inl none ↦ (let e = at.first none in let f = so_far.first none in record {
        below = rw e.0 may.blank.below;
        blank = λ rest. rw (e.0, e.1, f.0, f.1) may.blank;
        first = λ anew. absurd (both_ways start.anew e.2 anew);
        spares = λ anew good. absurd (both_ways start.anew e.2 anew);
      })
      | inr more ↦ (let e = at.next (omega arith) in record {
        below = rw e.0 (anchor_of_ring (home + step));
        blank = λ rest. absurd (both_ways start.anew rest e.2);
        first = λ anew. e.1;
        spares = λ anew good. rw e.0 (spared old mid was between r.geometry (anchor_after home step) same so_far.only_anchors so_far.keeps so_far.untouched
            (may.spares (anchor_after home step) (anchor_of_ring (home + step)) (λ here. absurd (let h = may.blank.below in omega arith))) (rw e.0 at good));
      })
    ]

    module _ (new : Device) (now : set.FinSet nat_cmp) (sequence : ℕ) where
      -- it did not take the record
      pub one_more : (more : ℕ) → Attempted mid between new now r sequence start.anchor start.place more (Ok None) → (set.contains now start.anchor ≡ true) ⊎ LacksRoom r between start.place → TriedBefore old was new now r home place (step + 1)
      one_more more attempted lacks = record {
        first = λ none. absurd (omega arith);
        only_anchors = OnlyAnchors_on old mid new was between now so_far.only_anchors attempted.only_anchors;
        asked = Asked_later old mid new 0 so_far.only_anchors.geometry so_far.asked attempted.tried;
        operations = let a = so_far.operations in let b = attempted.operations in omega (arith, a, b);
        keeps = Keeps_on r.geometry old.pages mid.pages new.pages so_far.keeps attempted.attempts;
        untouched = Untouched_on old mid new was between now so_far.only_anchors attempted.only_anchors so_far.untouched attempted.untouched;
        lacks = λ some. home_lacks (cases_eq step 0);
        tried = λ k some lt. elim (cases_eq k step) [
          | inl same ↦ ap (λ n. set.contains now (anchor_after home n)) same ∙ here_bad (omega arith)
          | inr apart ↦ attempted.only_anchors.stays_bad (anchor_after home k) (so_far.tried k some (omega arith))
        ];
      }
        where
          here_bad : 1 ≤ step → set.contains now (anchor_after home step) ≡ true
          here_bad some = elim lacks [
            | inl is ↦ ap (set.contains now) (sym (at.next some).0) ∙ is
            | inr less ↦ absurd (let fits = less.fits in let past = less.past in let none = (at.next some).1 in omega arith)
          ]

          home_lacks : (step ≡ 0) ⊎ (step ≢ 0) → (set.contains now home ≡ true) ⊎ LacksRoom r was place
          home_lacks (inl none) = elim lacks [
            | inl is ↦ inl (ap (set.contains now) (sym (at.first none).0) ∙ is)
            | inr less ↦ inr (rw ((so_far.first none).1, (at.first none).1) at less)
          ]
          home_lacks (inr more) = elim (so_far.lacks (omega arith)) [ inl is ↦ inl (attempted.only_anchors.stays_bad home is) | inr less ↦ inr less ]

      -- power went
      pub cut_leaves : (more : ℕ) (fault : Fault) → step < ANCHORS → Attempted mid between new now r sequence start.anchor start.place more (Err fault) → Leaves {T = Found} old was new now r sequence (Err fault)
      cut_leaves more fault lt attempted = record {
        commits = rw attempted.why.0 (either_on old.pages mid.pages new.pages r sequence now so_far.keeps (cut_attempt mid.pages new.pages r sequence now fault attempted.attempts));
        only_anchors = OnlyAnchors_on old mid new was between now so_far.only_anchors attempted.only_anchors;
        operations = next_tried old.operations mid.operations new.operations step ANCHORS r.geometry.pages so_far.operations attempted.operations (omega arith);
        in_vain = cut_in_vain old new now fault attempted.why;
      }

      module _ (found : Found) (lt : step < ANCHORS) (attempted : Attempted mid between new now r sequence start.anchor start.place (cond start.anew 1 0) (Ok (Some found))) where
        -- it took the record
        pub found_leaves : Leaves {T = Found} old was new now r sequence (Ok found)
        found_leaves = record {
          commits = attempted.attempts.0;
          only_anchors = OnlyAnchors_on old mid new was between now so_far.only_anchors attempted.only_anchors;
          operations = next_tried old.operations mid.operations new.operations step ANCHORS r.geometry.pages so_far.operations attempted.operations (omega arith);
          in_vain = tt;
        }

        -- where it stands
        pub found_stands : 1 ≤ r.geometry.pages → home < ANCHORS → is_read_only between ≡ false → StandsFrom old was new now r home place found
        found_stands some below writable = elim (cases_eq step 0) [
          | inl none ↦ (let e = at.first none in let page = rw (e.0, e.1) at attempted.page in record {
            stands = attempted.attempts.1;
            goes = inl (page, ap (set.contains now) (sym e.0) ∙ (ap (λ bads. set.contains bads start.anchor) attempted.list ∙ attempted.good));
            begun = λ here. Asked_later old mid new found.head.count so_far.only_anchors.geometry so_far.asked (asked_alone mid new found.head.count (rw e.2 at attempted.asked));
            elsewhere = λ apart. absurd (apart (ap (λ (p : ℕ). p / r.geometry.pages) page ∙ div-mul-add home r.geometry.pages place (rw e.1 at attempted.fits)));
            others = subst (λ (x : Device). found.page / r.geometry.pages ≡ home → (p : ℕ) → block_of x p ≢ home → new.pages p ≡ x.pages p) (so_far.first none).0 (λ here. rw e.0 at attempted.others);
            writable = ap is_read_only attempted.list ∙ writable;
          })
          | inr more ↦ (let e = at.next (omega arith) in
              let page : found.page ≡ anchor_after home step * r.geometry.pages = (let p = rw (e.0, e.1) at attempted.page in omega arith) in
              let next = next_is between now home step attempted.list (omega arith) lt (rw e.0 at attempted.good) so_far.tried in
              record {
                stands = attempted.attempts.1;
                goes = inr (anchor_after home step, page, next, elim (so_far.lacks (omega arith)) [ inl is ↦ inl (attempted.only_anchors.stays_bad home is) | inr less ↦ inr less ]);
                begun = λ here. absurd (other_anchor r.geometry now home found.page some below (anchor_after home step, page, next) here);
                elsewhere = λ apart. Asked_later old mid new (1 + found.head.count) so_far.only_anchors.geometry so_far.asked (rw e.2 at attempted.asked);
                others = λ here. absurd (other_anchor r.geometry now home found.page some below (anchor_after home step, page, next) here);
                writable = ap is_read_only attempted.list ∙ writable;
              })
        ]

-- ---- a commit as one value

pub Same_itself : {F : Type 0} (s : Commit F) → IsSameCommit s s
Same_itself s = record { flash = refl; bad = refl; saved = refl; sequence = refl; room = λ room. room }

pub Same_on : {F : Type 0} (s t u : Commit F) → IsSameCommit s t → IsSameCommit t u → IsSameCommit s u
Same_on s t u first next = record {
  flash = next.flash ∙ first.flash;
  bad = next.bad ∙ first.bad;
  saved = next.saved ∙ first.saved;
  sequence = next.sequence ∙ first.sequence;
  room = λ room. rw first.saved at (next.room (rw first.saved (first.room room)));
}

-- a record may still be committed after attempts that kept the newest one
pub ready_still : {F : Type 0} (device : F → Device) (s t : Commit F) → IsSameCommit s t → OnlyAnchors (device s.flash.now) s.bad.now (device t.flash.now) t.bad.now
    → KeepsNewest s.saved.now.geometry (device s.flash.now).pages (device t.flash.now).pages → IsReady device s → IsReady device t
ready_still device s t same only keeps ready = record {
  suits = rw same.saved (suits_still (device s.flash.now) (device t.flash.now) s.bad.now t.bad.now s.saved.now only ready.suits);
  older = rw (same.saved, same.sequence) (older_on s.saved.now.geometry (device s.flash.now).pages (device t.flash.now).pages s.sequence keeps ready.older);
  room = rw same.saved (same.room ready.room);
}

-- what a refusal leaves, of whatever it is
refused_too : (T U : Type 0) → (was now : ℕ → Page) (r : Record) (sequence : ℕ) (bad : set.FinSet nat_cmp) (fault : Fault) → Commits {T = T} was now r sequence bad (Err fault) → Commits {T = U} was now r sequence bad (Err fault)
refused_too T U was now r sequence bad PowerCut is = is
refused_too T U was now r sequence bad _ is = is

pub leaves_too : {T U : Type 0} → (old : Device) (was : set.FinSet nat_cmp) (new : Device) (now : set.FinSet nat_cmp) (r : Record) (sequence : ℕ) (fault : Fault) → Leaves {T = T} old was new now r sequence (Err fault) → Leaves {T = U} old was new now r sequence (Err fault)
leaves_too {T} {U} old was new now r sequence fault leaves = record {
  commits = refused_too T U old.pages new.pages r sequence now fault leaves.commits;
  only_anchors = leaves.only_anchors;
  operations = leaves.operations;
  in_vain = leaves.in_vain;
}
