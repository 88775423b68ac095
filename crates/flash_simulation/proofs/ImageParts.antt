-- Texts of many parts.
use Rattle.std.proofs.Common.{◌≡◌, ℕ, zero, suc, ◌+◌, ◌<◌, List, [], ◌++◌, refl, sym, ap, ◌∙◌, inl, inr, append_assoc, add-one, arith}
use Rattle.std.proofs.lemmas.Bool.{cases_lt}
use Rattle.std.proofs.lemmas.List.{append-nil}
use Rattle.flash_simulation.specs.Images.{parts}

pub parts-none : (part : ℕ → List ℕ) → parts 0 part ≡ []
unfolding parts
parts-none part = refl

pub parts-more : (n : ℕ) (part : ℕ → List ℕ) → parts (n + 1) part ≡ parts n part ++ part n
unfolding parts
parts-more n part = rw add-one refl

-- the same parts
pub parts-same : (n : ℕ) (f h : ℕ → List ℕ) → ((i : ℕ) → i < n → f i ≡ h i) → parts n f ≡ parts n h
unfolding parts
parts-same zero f h same = refl
parts-same (suc n) f h same =
    let front : parts n f ≡ parts n h = parts-same n f h (λ i below. same i (omega arith)) in
    let last : f n ≡ h n = same n (omega arith) in
    rw (front, last) refl

-- a part, with what stands before and after it
pub parts-split : (n i : ℕ) (part : ℕ → List ℕ) → i < n → (tail : List ℕ) × (parts n part ≡ parts i part ++ (part i ++ tail))
unfolding parts
parts-split zero i part below = absurd (omega arith)
parts-split (suc n) i part below =
    elim (cases_lt i n) [
      | inl less ↦
          let p = parts-split n i part less in
          (p.0 ++ part n, ap (λ (t : List ℕ). t ++ part n) p.1 ∙ append_assoc (parts i part) (part i ++ p.0) (part n) ∙ ap (λ (t : List ℕ). parts i part ++ t) (append_assoc (part i) p.0 (part n)))
      | inr last ↦
          let here : i ≡ n = omega arith in
          ([], rw here (ap (λ (t : List ℕ). parts n part ++ t) (sym (append-nil (part n)))))
    ]

-- where no part begins another, the parts of a text are told apart, and so is what follows them
pub parts-cancel : (n : ℕ) (f h : ℕ → List ℕ) (x y : List ℕ) → ((i : ℕ) → i < n → (u v : List ℕ) → f i ++ u ≡ h i ++ v → (f i ≡ h i) × (u ≡ v))
    → parts n f ++ x ≡ parts n h ++ y → ((i : ℕ) → i < n → f i ≡ h i) × (x ≡ y)
unfolding parts
parts-cancel zero f h x y one same = (λ i below. absurd (omega arith), same)
parts-cancel (suc n) f h x y one same =
    let regrouped : parts n f ++ (f n ++ x) ≡ parts n h ++ (h n ++ y) = sym (append_assoc (parts n f) (f n) x) ∙ same ∙ append_assoc (parts n h) (h n) y in
    let front = parts-cancel n f h (f n ++ x) (h n ++ y) (λ i below. one i (omega arith)) regrouped in
    let last = one n (omega arith) x y front.1 in (
      λ i below. elim (cases_lt i n) [
        | inl less ↦ front.0 i less
        | inr end ↦ let here : i ≡ n = omega arith in rw here last.0
      ],
      last.1,
    )
