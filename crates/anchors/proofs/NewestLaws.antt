-- The laws of the newest record.
use Rattle.std.proofs.Common.{◌≡◌, ◌≢◌, ◌⊎◌, ℕ, zero, suc, ◌+◌, ◌*◌, ◌/◌, ◌<◌, ◌≤◌, Bool, true, false, cond, eqb, ltb, Option, Some, None, refl, sym, ap, subst, ◌∙◌, inl, inr, arith}
use Rattle.std.proofs.lemmas.Bool.{cases_lt, cases_eq, lt-ltb, le-ltb, ne_eqb, eq-eqb, cases_order}
use Rattle.std.proofs.lemmas.Option.{none-some, same_Some, cond_some}
use Rattle.std.proofs.Common.{leb, ◌%◌}
use Rattle.std.proofs.lemmas.Bool.{leb-true}
use Rattle.std.specs.Option.{option_and_then}
use Rattle.std.specs.Prelude.{◌&&◌}
use Rattle.fs_types.specs.declared.limits.TheConstants.{ANCHORS}
use Rattle.flash_model.specs.Geometry.{IsGeometry}
use Rattle.anchors.proofs.Places.{record_ends}
use Rattle.flash_model.specs.declared.geometry.Geometry.{Geometry}
use Rattle.flash_model.specs.Device.{Page}
use Rattle.record_format.specs.declared.page_head.PageHead.{PageHead}
use Rattle.anchors.specs.declared.best.Found.{Found}
use Rattle.anchors.specs.Parts.{Part, part_of, parts_on, head_at, is_valid_record, record_head, considered, best_below, best_on, sequence_of, greatest_on, newest_at, newest_among}
use Rattle.anchors.specs.Laws.{HasNone, HasTie, IsNewest, FoundIsNewest, NewestIsFound, OnlyAnchorsMatter}

both_true : (a b : Bool) → (a && b) ≡ true → (a ≡ true) × (b ≡ true)
both_true true b e = (refl, e)
both_true false b e = absurd cc

module _ (g : Geometry) (parts : ℕ → Option Part) where
  -- no record begins before page n
  NoneBelow : ℕ → Type 0
  NoneBelow n = (q : ℕ) (head : PageHead) → q < n → record_head g parts q ≡ Some head → ⊥

  -- of those that begin before page n this is the greatest; where `twice` is set another has its sequence, and else none has
  record SomeBest (n : ℕ) (f : Found) (twice : Bool) : Type 0 where
    within : f.page < n
    valid : record_head g parts f.page ≡ Some f.head
    others : (q : ℕ) (head : PageHead) → q < n → q ≢ f.page → record_head g parts q ≡ Some head → (head.sequence < f.head.sequence) ⊎ ((head.sequence ≡ f.head.sequence) × (twice ≡ true))
    tie : twice ≡ true → (q : ℕ) × (head : PageHead) × (q < n) × (q ≢ f.page) × (record_head g parts q ≡ Some head) × (head.sequence ≡ f.head.sequence)

  abbrev BestIs : ℕ → Option Found → Bool → Type 0
  BestIs n None twice = NoneBelow n × (twice ≡ false)
  BestIs n (Some f) twice = SomeBest n f twice

  NoneBelow-more : (n : ℕ) → record_head g parts n ≡ None → NoneBelow n → NoneBelow (suc n)
  unfolding NoneBelow
  NoneBelow-more n none below q head lt valid = elim (cases_eq q n) [
    | inl here ↦ none-some head (sym none ∙ ap (record_head g parts) (sym here) ∙ valid)
    | inr apart ↦ below q head (omega arith) valid
  ]

  same_more : (n : ℕ) (f : Found) (twice : Bool) → record_head g parts n ≡ None → SomeBest n f twice → SomeBest (suc n) f twice
  same_more n f twice none is = record {
    within = let h : f.page < n = is.within in omega arith;
    valid = is.valid;
    others = λ q head lt apart valid. elim (cases_eq q n) [
      | inl here ↦ absurd (none-some head (sym none ∙ ap (record_head g parts) (sym here) ∙ valid))
      | inr other ↦ is.others q head (omega arith) apart valid
    ];
    tie = λ e. let t = is.tie e in (t.0, t.1, omega (arith, t.2), t.3, t.4, t.5);
  }

  first_more : (n : ℕ) (h : PageHead) → record_head g parts n ≡ Some h → NoneBelow n → SomeBest (suc n) (record { page = n; head = h }) false
  unfolding NoneBelow
  first_more n h here below = record {
    within = omega arith;
    valid = here;
    others = λ q head lt apart valid. absurd (below q head (omega arith) valid);
    tie = λ e. absurd cc;
  }

  greater_more : (n : ℕ) (f : Found) (twice : Bool) (h : PageHead) → record_head g parts n ≡ Some h → f.head.sequence < h.sequence → SomeBest n f twice → SomeBest (suc n) (record { page = n; head = h }) false
  greater_more n f twice h here greater is = record {
    within = omega arith;
    valid = here;
    others = λ q head lt apart valid. elim (cases_eq q f.page) [
      | inl old ↦ let same = ap (λ (x : PageHead). x.sequence) (same_Some head f.head (sym valid ∙ ap (record_head g parts) old ∙ is.valid)) in inl (omega arith)
      | inr other ↦ elim (is.others q head (omega arith) other valid) [ inl less ↦ inl (omega arith) | inr tied ↦ inl (omega (arith, tied.0)) ]
    ];
    tie = λ e. absurd cc;
  }

  equal_more : (n : ℕ) (f : Found) (twice : Bool) (h : PageHead) → record_head g parts n ≡ Some h → f.head.sequence ≡ h.sequence → SomeBest n f twice → SomeBest (suc n) f true
  equal_more n f twice h here same is = record {
    within = let w : f.page < n = is.within in omega arith;
    valid = is.valid;
    others = λ q head lt apart valid. elim (cases_eq q n) [
      | inl new ↦ inr (ap (λ (x : PageHead). x.sequence) (same_Some head h (sym valid ∙ ap (record_head g parts) new ∙ here)) ∙ sym same, refl)
      | inr other ↦ elim (is.others q head (omega arith) apart valid) [ inl less ↦ inl less | inr tied ↦ inr (tied.0, refl) ]
    ];
    tie = λ e. (n, h, omega arith, (λ at. let w : f.page < n = is.within in absurd (omega arith)), here, sym same);
  }

  less_more : (n : ℕ) (f : Found) (twice : Bool) (h : PageHead) → record_head g parts n ≡ Some h → h.sequence < f.head.sequence → SomeBest n f twice → SomeBest (suc n) f twice
  less_more n f twice h here less is = record {
    within = let w : f.page < n = is.within in omega arith;
    valid = is.valid;
    others = λ q head lt apart valid. elim (cases_eq q n) [
      | inl new ↦ let same = ap (λ (x : PageHead). x.sequence) (same_Some head h (sym valid ∙ ap (record_head g parts) new ∙ here)) in inl (omega arith)
      | inr other ↦ is.others q head (omega arith) apart valid
    ];
    tie = λ e. let t = is.tie e in (t.0, t.1, omega (arith, t.2), t.3, t.4, t.5);
  }

  best_with : (n : ℕ) (found : Option Found) (twice : Bool) (new : Option PageHead) → record_head g parts n ≡ new → BestIs n found twice
      → BestIs (suc n) (considered (record { found = found; twice = twice }) n new).found (considered (record { found = found; twice = twice }) n new).twice
  best_with n None twice None here is = (NoneBelow-more n here is.0, is.1)
  best_with n (Some f) twice None here is = same_more n f twice here is
  best_with n None twice (Some h) here is = first_more n h here is.0
  best_with n (Some f) twice (Some h) here is = elim (cases_order f.head.sequence h.sequence) [
    | inl same ↦ let less : ltb f.head.sequence h.sequence ≡ false = le-ltb _ _ (omega arith) in rw (less, eq-eqb _ _ same) (equal_more n f twice h here same is)
    | inr (inl greater) ↦ rw (lt-ltb _ _ greater) (greater_more n f twice h here greater is)
    | inr (inr lower) ↦
        let less : ltb f.head.sequence h.sequence ≡ false = le-ltb _ _ (omega arith) in
        let apart : eqb f.head.sequence h.sequence ≡ false = ne_eqb _ _ (λ e. omega arith) in
        rw (less, apart) (less_more n f twice h here lower is)
  ]

  best_is : (n : ℕ) → BestIs n (best_below g parts n).found (best_below g parts n).twice
  unfolding best_below NoneBelow
  best_is zero = ((λ q head lt valid. absurd (omega arith)), refl)
  best_is (suc n) = best_with n (best_below g parts n).found (best_below g parts n).twice (record_head g parts n) refl (best_is n)

  found_from : (n : ℕ) (found : Option Found) (twice : Bool) (f : Found) → n ≡ ANCHORS * g.pages → BestIs n found twice → cond twice None found ≡ Some f → IsNewest g parts f
  found_from n None true f size is e = absurd (none-some f e)
  found_from n None false f size is e = absurd (none-some f e)
  found_from n (Some b) true f size is e = absurd (none-some f e)
  found_from n (Some b) false f size is e = subst (IsNewest g parts) (same_Some b f e) (record {
    within = let w : b.page < n = is.within in omega arith;
    valid = is.valid;
    older = λ q head lt apart valid. elim (is.others q head (omega arith) apart valid) [ inl less ↦ less | inr tied ↦ absurd (let t = tied.1 in cc) ];
  })

  newest_from : (n : ℕ) (found : Option Found) (twice : Bool) (f : Found) → n ≡ ANCHORS * g.pages → BestIs n found twice → IsNewest g parts f → cond twice None found ≡ Some f
  unfolding NoneBelow
  newest_from n None twice f size is newest = absurd (is.0 f.page f.head (let w : f.page < ANCHORS * g.pages = newest.within in omega arith) newest.valid)
  newest_from n (Some b) twice f size is newest = elim (cases_eq b.page f.page) [
    | inl same ↦
        let heads : b.head ≡ f.head = same_Some b.head f.head (sym is.valid ∙ ap (record_head g parts) same ∙ newest.valid) in
        here twice is same heads
    | inr apart ↦
        let less : b.head.sequence < f.head.sequence = newest.older b.page b.head (let w : b.page < n = is.within in omega arith) apart is.valid in
        absurd (elim (is.others f.page f.head (let w : f.page < ANCHORS * g.pages = newest.within in omega arith) (λ e. apart (sym e)) newest.valid) [ inl lower ↦ omega arith | inr tied ↦ omega (arith, tied.0) ])
  ]
    where
      here : (t : Bool) → SomeBest n b t → b.page ≡ f.page → b.head ≡ f.head → cond t None (Some b) ≡ Some f
      here true is same heads =
          let t = is.tie refl in
          let less : t.1.sequence < f.head.sequence = newest.older t.0 t.1 (omega (arith, t.2)) (λ e. t.3 (e ∙ sym same)) t.4 in
          let equal : t.1.sequence ≡ f.head.sequence = t.5 ∙ ap (λ (x : PageHead). x.sequence) heads in
          absurd (omega arith)
      here false is same heads = λ i. Some (record { page = same i; head = heads i })

-- where no record is the best there is none
pub none_valid : (g : Geometry) (parts : ℕ → Option Part) → (best_on g parts).found ≡ None → HasNone g parts
unfolding NoneBelow
none_valid g parts none = (subst (λ (o : Option Found). BestIs g parts (ANCHORS * g.pages) o (best_on g parts).twice) none (best_is g parts (ANCHORS * g.pages))).0

-- no valid record has a sequence above that of the best
best_most : (g : Geometry) (parts : ℕ → Option Part) (found : Option Found) (twice : Bool) → BestIs g parts (ANCHORS * g.pages) found twice → (q : ℕ) (head : PageHead) → q < ANCHORS * g.pages → record_head g parts q ≡ Some head → head.sequence ≤ sequence_of found
unfolding NoneBelow
best_most g parts None twice is q head lt valid = absurd (is.0 q head lt valid)
best_most g parts (Some f) twice is q head lt valid = elim (cases_eq q f.page) [
  | inl here ↦ let same = ap (λ (x : PageHead). x.sequence) (same_Some head f.head (sym valid ∙ ap (record_head g parts) here ∙ is.valid)) in omega arith
  | inr apart ↦ elim (is.others q head lt apart valid) [ inl less ↦ omega arith | inr tied ↦ omega (arith, tied.0) ]
]

pub greatest_most : (g : Geometry) (pages : ℕ → Page) (q : ℕ) (head : PageHead) → q < ANCHORS * g.pages → record_head g (parts_on g pages) q ≡ Some head → head.sequence ≤ greatest_on g pages
greatest_most g pages q head lt valid = best_most g (parts_on g pages) (best_on g (parts_on g pages)).found (best_on g (parts_on g pages)).twice (best_is g (parts_on g pages) (ANCHORS * g.pages)) q head lt valid

tie_from : (g : Geometry) (parts : ℕ → Option Part) (found : Option Found) (twice : Bool) → BestIs g parts (ANCHORS * g.pages) found twice → twice ≡ true → HasTie g parts
tie_from g parts None twice is e = absurd (let f = is.1 in cc)
tie_from g parts (Some f) twice is e =
    let t = is.tie e in
    record {
      one = f;
      two = record { page = t.0; head = t.1 };
      one_within = is.within;
      two_within = t.2;
      apart = t.3;
      one_valid = is.valid;
      two_valid = t.4;
      same = t.5;
      greatest = λ q head lt valid. elim (cases_eq q f.page) [
        | inl here ↦ let same = ap (λ (x : PageHead). x.sequence) (same_Some head f.head (sym valid ∙ ap (record_head g parts) here ∙ is.valid)) in omega arith
        | inr apart ↦ elim (is.others q head lt apart valid) [ inl less ↦ omega arith | inr tied ↦ omega (arith, tied.0) ]
      ];
    }

-- where another has the sequence of the best there are two
pub tied : (g : Geometry) (parts : ℕ → Option Part) → (best_on g parts).twice ≡ true → HasTie g parts
tied g parts e = tie_from g parts (best_on g parts).found (best_on g parts).twice (best_is g parts (ANCHORS * g.pages)) e

-- the pages of a valid record are pages of anchors
pub valid_ends : (g : Geometry) (parts : ℕ → Option Part) (p : ℕ) (head : PageHead) → IsGeometry g → p < ANCHORS * g.pages → record_head g parts p ≡ Some head → p + head.count ≤ ANCHORS * g.pages
valid_ends g parts p head lawful lt valid = from (head_at parts p) valid
  where
    from : (o : Option PageHead) → option_and_then (λ first. cond (is_valid_record g parts p first) (Some first) None) o ≡ Some head → p + head.count ≤ ANCHORS * g.pages
    from None e = absurd (none-some head e)
    from (Some first) e =
        let chosen = cond_some (is_valid_record g parts p first) first head e in
        let rest = (both_true (ltb 0 first.count) _ chosen.0).1 in
        let le : p % g.pages + first.count ≤ g.pages = leb-true _ _ (both_true (leb (p % g.pages + first.count) g.pages) _ rest).0 in
        let same = ap (λ (x : PageHead). x.count) chosen.1 in
        record_ends g p head.count lawful lt (omega arith)

pub best_ends : (g : Geometry) (parts : ℕ → Option Part) (f : Found) → IsGeometry g → (best_on g parts).found ≡ Some f → f.page + f.head.count ≤ ANCHORS * g.pages
best_ends g parts f lawful e =
    let is = subst (λ (o : Option Found). BestIs g parts (ANCHORS * g.pages) o (best_on g parts).twice) e (best_is g parts (ANCHORS * g.pages)) in
    valid_ends g parts f.page f.head lawful is.within is.valid

pub found_is_newest : FoundIsNewest
found_is_newest g parts f e = found_from g parts (ANCHORS * g.pages) (best_on g parts).found (best_on g parts).twice f refl (best_is g parts (ANCHORS * g.pages)) e

pub newest_is_found : NewestIsFound
newest_is_found g parts f newest = newest_from g parts (ANCHORS * g.pages) (best_on g parts).found (best_on g parts).twice f refl (best_is g parts (ANCHORS * g.pages)) newest

same_part : (g : Geometry) (old new : ℕ → Page) → ((p : ℕ) → p / g.pages < ANCHORS → new p ≡ old p) → (p : ℕ) → parts_on g new p ≡ parts_on g old p
same_part g old new same p = elim (cases_lt (p / g.pages) ANCHORS) [
  | inl lt ↦ rw (lt-ltb _ _ lt) (ap part_of (same p lt))
  | inr le ↦ rw (le-ltb _ _ le) refl
]

pub only_anchors_matter : OnlyAnchorsMatter
only_anchors_matter g old new same = ap (newest_among g) (λ i p. same_part g old new same p i)

pub same_place : (g : Geometry) (old new : ℕ → Page) → ((p : ℕ) → p / g.pages < ANCHORS → new p ≡ old p) → newest_at g (parts_on g new) ≡ newest_at g (parts_on g old)
same_place g old new same = ap (newest_at g) (λ i p. same_part g old new same p i)
