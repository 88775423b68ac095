-- What slots tell of one another, as lists, and the last slot of an index.
use Rattle.std.proofs.Common.{◌≡◌, ◌⊎◌, inl, inr, ℕ, zero, suc, ◌+◌, ◌<◌, ◌≤◌, Bool, true, false, cond, List, [], ◌∷◌, ◌++◌, refl, sym, ap, subst, ◌∙◌, arith}
use Rattle.std.specs.Prelude.{Contains}
use Rattle.std.proofs.lemmas.Bool.{cases_lt}
use Rattle.std.proofs.lemmas.List.Elements.{Contains-append_left, Contains-push, Contains-push_cases}
use Rattle.reclaim.specs.Naming.{has_slot}
use Rattle.reclaim.specs.Tops.{top_below, steps_below}

-- ---- the last slot

pub top_below-none : (pointer : ℕ → ℕ) (index : ℕ) → top_below pointer index 0 ≡ 0
unfolding top_below
top_below-none pointer index = refl

pub top_below-has : (pointer : ℕ → ℕ) (index x : ℕ) → has_slot index x ≡ true → top_below pointer index (x + 1) ≡ pointer x
unfolding top_below
top_below-has pointer index x has =
    let e : x + 1 ≡ suc x = omega arith in
    ap (top_below pointer index) e ∙ ap (λ (b : Bool). cond b (pointer x) (top_below pointer index x)) has

pub top_below-lacks : (pointer : ℕ → ℕ) (index x : ℕ) → has_slot index x ≡ false → top_below pointer index (x + 1) ≡ top_below pointer index x
unfolding top_below
top_below-lacks pointer index x lacks =
    let e : x + 1 ≡ suc x = omega arith in
    ap (top_below pointer index) e ∙ ap (λ (b : Bool). cond b (pointer x) (top_below pointer index x)) lacks

-- what stands at a slot after which no other comes
pub top_is : (pointer : ℕ → ℕ) (index x n : ℕ) → x < n → has_slot index x ≡ true → ((z : ℕ) → x < z → z < n → has_slot index z ≡ false) → top_below pointer index n ≡ pointer x
top_is pointer index x zero lt has last = absurd (omega (arith, lt))
top_is pointer index x (suc n) lt has last =
    let e : suc n ≡ n + 1 = omega arith in
    ap (top_below pointer index) e
    ∙ elim (cases_lt x n) [
      | inl less ↦ top_below-lacks pointer index n (last n less (omega arith)) ∙ top_is pointer index x n less has (λ z more below. last z more (omega (arith, below)))
      | inr past ↦
          let same : x ≡ n = omega (arith, lt, past) in
          top_below-has pointer index n (ap (has_slot index) (sym same) ∙ has) ∙ ap pointer (sym same)
    ]

-- ---- what slots tell

pub steps_below-none : (pointer : ℕ → ℕ) (index : ℕ) → steps_below pointer index 0 ≡ []
unfolding steps_below
steps_below-none pointer index = refl

steps_on : (pointer : ℕ → ℕ) (index x : ℕ) (t : Bool) → has_slot index (suc x) ≡ t
    → steps_below pointer index (suc x) ≡ cond t (steps_below pointer index x ++ (pointer x, pointer (suc x)) ∷ []) (steps_below pointer index x)
unfolding steps_below
steps_on pointer index x t is = ap (λ (b : Bool). cond b (steps_below pointer index x ++ (pointer x, pointer (suc x)) ∷ []) (steps_below pointer index x)) is

pub steps_below-has : (pointer : ℕ → ℕ) (index x : ℕ) → has_slot index (x + 1) ≡ true → steps_below pointer index (x + 1) ≡ steps_below pointer index x ++ (pointer x, pointer (x + 1)) ∷ []
steps_below-has pointer index x has =
    let e : x + 1 ≡ suc x = omega arith in
    ap (steps_below pointer index) e ∙ steps_on pointer index x true (ap (has_slot index) (sym e) ∙ has)
    ∙ ap (λ (y : ℕ). steps_below pointer index x ++ (pointer x, pointer y) ∷ []) (sym e)

pub steps_below-lacks : (pointer : ℕ → ℕ) (index x : ℕ) → has_slot index (x + 1) ≡ false → steps_below pointer index (x + 1) ≡ steps_below pointer index x
steps_below-lacks pointer index x lacks =
    let e : x + 1 ≡ suc x = omega arith in
    ap (steps_below pointer index) e ∙ steps_on pointer index x false (ap (has_slot index) (sym e) ∙ lacks)

-- those of fewer slots are among those of more
pub steps_within : (pointer : ℕ → ℕ) (index x n : ℕ) (one : ℕ × ℕ) → x ≤ n → Contains (steps_below pointer index x) one → Contains (steps_below pointer index n) one
steps_within pointer index x zero one le has =
    let none : x ≡ 0 = omega (arith, le) in
    subst (λ (k : ℕ). Contains (steps_below pointer index k) one) none has
steps_within pointer index x (suc n) one le has = by (cases_lt x (suc n)) (λ less. steps_within pointer index x n one less has)
  where
    on : (t : Bool) → has_slot index (suc n) ≡ t → Contains (steps_below pointer index n) one → Contains (steps_below pointer index (suc n)) one
    on true is before = subst (λ (l : List (ℕ × ℕ)). Contains l one) (sym (steps_on pointer index n true is)) (Contains-append_left (steps_below pointer index n) ((pointer n, pointer (suc n)) ∷ []) one before)
    on false is before = subst (λ (l : List (ℕ × ℕ)). Contains l one) (sym (steps_on pointer index n false is)) before

    by : (x < suc n) ⊎ (suc n ≤ x) → (x ≤ n → Contains (steps_below pointer index n) one) → Contains (steps_below pointer index (suc n)) one
    by (inl less) again = on (has_slot index (suc n)) refl (again (omega (arith, less)))
    by (inr past) again =
        let same : x ≡ suc n = omega (arith, le, past) in
        subst (λ (k : ℕ). Contains (steps_below pointer index k) one) same has

-- each is told by a slot that has one after it
abbrev pub IsStep : (ℕ → ℕ) → ℕ → ℕ → ℕ × ℕ → Type 0
IsStep pointer index n one = (x : ℕ) × (x < n) × (has_slot index (suc x) ≡ true) × (pointer x ≡ one.0) × (pointer (suc x) ≡ one.1)

pub steps_to : (pointer : ℕ → ℕ) (index n : ℕ) (one : ℕ × ℕ) → Contains (steps_below pointer index n) one → IsStep pointer index n one
steps_to pointer index zero one has = absurd (omega (arith, (subst (λ (l : List (ℕ × ℕ)). Contains l one) (steps_below-none pointer index) has).1))
steps_to pointer index (suc n) one has = on (has_slot index (suc n)) refl (steps_to pointer index n one)
  where
    more : IsStep pointer index n one → IsStep pointer index (suc n) one
    more (x, lt, slot, at, next) = (x, omega (arith, lt), slot, at, next)

    on : (t : Bool) → has_slot index (suc n) ≡ t → (Contains (steps_below pointer index n) one → IsStep pointer index n one) → IsStep pointer index (suc n) one
    on true is again = elim (Contains-push_cases (steps_below pointer index n) (pointer n, pointer (suc n)) one (subst (λ (l : List (ℕ × ℕ)). Contains l one) (steps_on pointer index n true is) has)) [
      | inl before ↦ more (again before)
      | inr same ↦ (n, omega arith, is, ap (λ (o : ℕ × ℕ). o.0) same, ap (λ (o : ℕ × ℕ). o.1) same)
    ]
    on false is again = more (again (subst (λ (l : List (ℕ × ℕ)). Contains l one) (steps_on pointer index n false is) has))

pub steps_from : (pointer : ℕ → ℕ) (index x n : ℕ) → x < n → has_slot index (suc x) ≡ true → Contains (steps_below pointer index n) (pointer x, pointer (suc x))
steps_from pointer index x n lt has =
    steps_within pointer index (suc x) n (pointer x, pointer (suc x)) (omega (arith, lt))
    (subst (λ (l : List (ℕ × ℕ)). Contains l (pointer x, pointer (suc x))) (sym (steps_on pointer index x true has)) (Contains-push (steps_below pointer index x) (pointer x, pointer (suc x))))
