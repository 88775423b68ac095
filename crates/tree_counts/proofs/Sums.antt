-- Sums over lists, and what lists have.
use Rattle.std.proofs.Common.{◌≡◌, ◌⊎◌, inl, inr, ℕ, zero, suc, ◌+◌, ◌<◌, List, [], ◌∷◌, ◌++◌, map, length, refl, sym, ap, subst, ◌∙◌, arith}
use Rattle.std.specs.Prelude.{sum_by, Contains}
use Rattle.std.specs.List.{flat_map}
use Rattle.std.proofs.lemmas.List.Concat.{flat_map-cons}
use Rattle.std.proofs.lemmas.List.Sums.{sum_by-cons, sum_by-append}
use Rattle.std.proofs.lemmas.List.Elements.{Contains-append_cases, Contains-push, Contains-push_cases}

pub head_in : {X : Type 0} (x : X) (xs : List X) → Contains (x ∷ xs) x
head_in x xs = (0, omega arith, refl)

pub tail_in : {X : Type 0} (x y : X) (xs : List X) → Contains xs y → Contains (x ∷ xs) y
tail_in x y xs (k, lt, is) = (suc k, omega arith, is)

pub in_none : {X : Type 0} (x : X) → Contains [] x → ⊥
in_none x (k, lt, is) = omega arith

pub in_one : (x b : ℕ) → Contains (x ∷ []) b → x ≡ b
in_one x b h = one (Contains-push_cases [] x b h)
  where
    one : Contains [] b ⊎ (x ≡ b) → x ≡ b
    one (inl none) = absurd (in_none b none)
    one (inr same) = same

-- sums of the same terms
pub sum_same : {X : Type 0} (f g : X → ℕ) (xs : List X) → ((x : X) → Contains xs x → f x ≡ g x) → sum_by f xs ≡ sum_by g xs
sum_same f g [] same = refl
sum_same f g (x ∷ xs) same =
    let first : f x ≡ g x = same x (head_in x xs) in
    let rest : sum_by f xs ≡ sum_by g xs = sum_same f g xs (λ y has. same y (tail_in x y xs has)) in
    omega (arith, first, rest, sum_by-cons f x xs, sum_by-cons g x xs)

pub sum_map : {X Y : Type 0} (g : Y → ℕ) (f : X → Y) (xs : List X) → sum_by g (map f xs) ≡ sum_by (λ x. g (f x)) xs
sum_map g f [] = refl
sum_map g f (x ∷ xs) = omega (arith, sum_map g f xs, sum_by-cons g (f x) (map f xs), sum_by-cons (λ x. g (f x)) x xs)

pub sum_flat : {X Y : Type 0} (g : Y → ℕ) (f : X → List Y) (xs : List X) → sum_by g (flat_map f xs) ≡ sum_by (λ x. sum_by g (f x)) xs
sum_flat g f [] = refl
sum_flat g f (x ∷ xs) =
    ap (sum_by g) (flat_map-cons f x xs) ∙ omega (arith, sum_flat g f xs, sum_by-append g (f x) (flat_map f xs), sum_by-cons (λ x. sum_by g (f x)) x xs)

pub sum_plus : {X : Type 0} (f g : X → ℕ) (xs : List X) → sum_by (λ x. f x + g x) xs ≡ sum_by f xs + sum_by g xs
sum_plus f g [] = refl
sum_plus f g (x ∷ xs) = omega (arith, sum_plus f g xs, sum_by-cons (λ x. f x + g x) x xs, sum_by-cons f x xs, sum_by-cons g x xs)
