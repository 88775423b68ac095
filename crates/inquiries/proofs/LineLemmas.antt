-- Lines of places and what stands there, added one after the other.
use Rattle.std.proofs.Common.{◌≡◌, ◌∙◌, ℕ, ◌+◌, ◌<◌, ◌≤◌, List, [], ◌∷◌, ◌++◌, length, take, get_or, sym, ap, arith, zero-add}
use Rattle.std.proofs.lemmas.List.{flat_map_more, take_more, take_all}
use Rattle.std.proofs.lemmas.List.FromFn.{length-enumerate_from, get_or-enumerate_from}
use Rattle.std.specs.List.{flat_map, enumerate_from}

module _ {X : Type 0} (line : ℕ × X → List ℕ) (xs : List X) (start : List ℕ) where
  -- a row more
  pub row_more : (i : ℕ) (d : X) (mid new : List ℕ) → i < length xs → mid ≡ start ++ flat_map line (take i (enumerate_from 0 xs)) → new ≡ mid ++ line (i, get_or xs i d)
      → new ≡ start ++ flat_map line (take (i + 1) (enumerate_from 0 xs))
  row_more i d mid new within so_far grown =
      let long : i < length (enumerate_from 0 xs) = omega (arith, length-enumerate_from 0 xs) in
      let here : get_or (enumerate_from 0 xs) i (0, d) ≡ (i, get_or xs i d) = get_or-enumerate_from 0 xs i (0, d) within ∙ ap (λ (n : ℕ). (n, get_or xs i d)) (zero-add i) in
      grown ∙ ap (λ (bytes : List ℕ). bytes ++ line (i, get_or xs i d)) so_far ∙ flat_map_more line start (take i (enumerate_from 0 xs)) (i, get_or xs i d)
      ∙ ap (λ (rows : List (ℕ × X)). start ++ flat_map line rows) (sym (take_more (enumerate_from 0 xs) i (0, d) long ∙ ap (λ (row : ℕ × X). take i (enumerate_from 0 xs) ++ row ∷ []) here))

  -- all of them
  pub rows_all : (i : ℕ) (new : List ℕ) → length xs ≤ i → new ≡ start ++ flat_map line (take i (enumerate_from 0 xs)) → new ≡ start ++ flat_map line (enumerate_from 0 xs)
  rows_all i new past so_far =
      let long : length (enumerate_from 0 xs) ≤ i = omega (arith, length-enumerate_from 0 xs) in
      so_far ∙ ap (λ (rows : List (ℕ × X)). start ++ flat_map line rows) (take_all i (enumerate_from 0 xs) long)
