-- Lines of pairs of two lists at their places, added one after the other up to the end of the shorter list.
use Rattle.std.proofs.Common.{◌≡◌, ◌∙◌, ◌⊎◌, inl, inr, ℕ, zero, suc, ◌+◌, ◌<◌, ◌≤◌, Option, Some, None, List, [], ◌∷◌, ◌++◌, length, take, get_or, refl, sym, ap, subst, arith}
use Rattle.std.proofs.lemmas.List.{flat_map_more, take_more, take_all}
use Rattle.std.specs.Borrow.{Bor}
use Rattle.std.specs.List.{flat_map, enumerate_from, zip}
use Rattle.std.specs.Slice.{IsItemAt}
use Rattle.inquiries.proofs.LineLemmas.{row_more, rows_all}

-- what `get` gives
pub got_none : {X : Type 0} (xs : List X) (i : ℕ) (r : Option (Bor X)) → IsItemAt xs i r → r ≡ None → length xs ≤ i
got_none xs i r gives is = (subst (IsItemAt xs i) is gives).3

pub got_some : {X : Type 0} (xs : List X) (i : ℕ) (r : Option (Bor X)) (x : Bor X) → IsItemAt xs i r → r ≡ Some x → (i < length xs) × (get_or xs i x.now ≡ x.now)
got_some xs i r x gives is =
    let some : IsItemAt xs i (Some x) = subst (IsItemAt xs i) is gives in
    (some.3.0, sym some.1)

pub zip_long : {X Y : Type 0} (xs : List X) (ys : List Y) (i : ℕ) → i < length xs → i < length ys → i < length (zip xs ys)
zip_long [] ys i within there = absurd (omega arith)
zip_long (x ∷ xs) [] i within there = absurd (omega arith)
zip_long (x ∷ xs) (y ∷ ys) zero within there = omega arith
zip_long (x ∷ xs) (y ∷ ys) (suc i) within there = let rest : i < length (zip xs ys) = zip_long xs ys i (omega arith) (omega arith) in omega arith

pub zip_short : {X Y : Type 0} (xs : List X) (ys : List Y) (i : ℕ) → (length xs ≤ i) ⊎ (length ys ≤ i) → length (zip xs ys) ≤ i
zip_short [] ys i past = omega arith
zip_short (x ∷ xs) [] i past = omega arith
zip_short (x ∷ xs) (y ∷ ys) zero (inl past) = absurd (omega arith)
zip_short (x ∷ xs) (y ∷ ys) zero (inr past) = absurd (omega arith)
zip_short (x ∷ xs) (y ∷ ys) (suc i) (inl past) = let rest : length (zip xs ys) ≤ i = zip_short xs ys i (inl (omega arith)) in omega arith
zip_short (x ∷ xs) (y ∷ ys) (suc i) (inr past) = let rest : length (zip xs ys) ≤ i = zip_short xs ys i (inr (omega arith)) in omega arith

pub zip_at : {X Y : Type 0} (xs : List X) (ys : List Y) (i : ℕ) (x : X) (y : Y) → i < length xs → i < length ys → get_or (zip xs ys) i (x, y) ≡ (get_or xs i x, get_or ys i y)
zip_at [] ys i x y within there = absurd (omega arith)
zip_at (a ∷ xs) [] i x y within there = absurd (omega arith)
zip_at (a ∷ xs) (b ∷ ys) zero x y within there = refl
zip_at (a ∷ xs) (b ∷ ys) (suc i) x y within there = zip_at xs ys i x y (omega arith) (omega arith)

module _ {X Y : Type 0} (xs : List X) (ys : List Y) (start : List ℕ) where
  -- a pair more, at its place
  pub place_more : (line : ℕ × (X × Y) → List ℕ) (i : ℕ) (x : X) (y : Y) (mid new : List ℕ) → i < length xs → i < length ys → mid ≡ start ++ flat_map line (take i (enumerate_from 0 (zip xs ys)))
      → new ≡ mid ++ line (i, (get_or xs i x, get_or ys i y)) → new ≡ start ++ flat_map line (take (i + 1) (enumerate_from 0 (zip xs ys)))
  place_more line i x y mid new within there so_far grown =
      row_more line (zip xs ys) start i (x, y) mid new (zip_long xs ys i within there) so_far
      (grown ∙ ap (λ (pair : X × Y). mid ++ line (i, pair)) (sym (zip_at xs ys i x y within there)))

  pub places_all : (line : ℕ × (X × Y) → List ℕ) (i : ℕ) (new : List ℕ) → (length xs ≤ i) ⊎ (length ys ≤ i) → new ≡ start ++ flat_map line (take i (enumerate_from 0 (zip xs ys)))
      → new ≡ start ++ flat_map line (enumerate_from 0 (zip xs ys))
  places_all line i new past so_far = rows_all line (zip xs ys) start i new (zip_short xs ys i past) so_far

  -- a pair more
  pub pair_more : (line : X × Y → List ℕ) (i : ℕ) (x : X) (y : Y) (mid new : List ℕ) → i < length xs → i < length ys → mid ≡ start ++ flat_map line (take i (zip xs ys))
      → new ≡ mid ++ line (get_or xs i x, get_or ys i y) → new ≡ start ++ flat_map line (take (i + 1) (zip xs ys))
  pair_more line i x y mid new within there so_far grown =
      grown ∙ ap (λ (bytes : List ℕ). bytes ++ line (get_or xs i x, get_or ys i y)) so_far ∙ flat_map_more line start (take i (zip xs ys)) (get_or xs i x, get_or ys i y)
      ∙ ap (λ (pairs : List (X × Y)). start ++ flat_map line pairs)
      (sym (take_more (zip xs ys) i (x, y) (zip_long xs ys i within there) ∙ ap (λ (pair : X × Y). take i (zip xs ys) ++ pair ∷ []) (zip_at xs ys i x y within there)))

  pub pairs_all : (line : X × Y → List ℕ) (i : ℕ) (new : List ℕ) → (length xs ≤ i) ⊎ (length ys ≤ i) → new ≡ start ++ flat_map line (take i (zip xs ys)) → new ≡ start ++ flat_map line (zip xs ys)
  pairs_all line i new past so_far = so_far ∙ ap (λ (pairs : List (X × Y)). start ++ flat_map line pairs) (take_all i (zip xs ys) (zip_short xs ys i past))
