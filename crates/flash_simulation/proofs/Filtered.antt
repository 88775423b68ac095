-- What a filter keeps and leaves out.
use Rattle.std.proofs.Common.{◌≡◌, ◌<◌, Bool, true, false, List, [], ◌∷◌, length, arith, ◌||◌, not, cond, refl}
use Rattle.std.specs.List.{filter, list_any}
use Rattle.std.proofs.lemmas.List.Filters.{length-filter_both}

length-cond_some : {X : Type 0} (b : Bool) (x : X) (xs : List X) (rest : Bool)
    → (rest ≡ true → 0 < length xs) → (b || rest) ≡ true → 0 < length (cond b (x ∷ xs) xs)
length-cond_some true x xs rest more some = omega arith
length-cond_some false x xs rest more some = more some

-- where some element passes a test, the filter by it keeps one at least
length-filter_any : {X : Type 0} (p : X → Bool) (xs : List X) → list_any p xs ≡ true → 0 < length (filter p xs)
length-filter_any p [] some = cc
length-filter_any p (x ∷ xs) some = length-cond_some (p x) x (filter p xs) (list_any p xs) (length-filter_any p xs) some

-- and the filter by its opposite leaves one out
pub length-filter_not : {X : Type 0} (p : X → Bool) (xs : List X) → list_any p xs ≡ true → length (filter (λ x. not (p x)) xs) < length xs
length-filter_not p xs some =
    omega (arith, length-filter_both p (λ x. not (p x)) (λ _. refl) xs, length-filter_any p xs some)
