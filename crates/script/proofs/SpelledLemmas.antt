-- A look-up in rows, one after the other.
use Rattle.std.proofs.Common.{◌≡◌, ℕ, ◌+◌, ◌<◌, ◌≤◌, true, false, cond, List, [], length, drop, map, get_or, Option, Some, None, Bor, sym, ap, ◌∙◌, arith, add-one}
use Rattle.std.proofs.lemmas.Grind.{common_steps}
use Rattle.std.proofs.Math.Seq.{drop-cons}
use Rattle.std.specs.Map.{lookup}
use Rattle.std.specs.Str.{bytes_eq}

-- rows as the definitions see them
abbrev pub rows : {V : Type 0} → List (Bor (List ℕ) × V) → List (List ℕ × V)
rows xs = map (λ e. (e.0.now, e.1)) xs

-- the rows from a place on
abbrev pub found_from : {V : Type 0} → List ℕ → List (Bor (List ℕ) × V) → ℕ → Option V
found_from word xs i = lookup (bytes_eq word) (rows (drop i xs))

row_at : {V : Type 0} → (word : List ℕ) (xs : List (Bor (List ℕ) × V)) (i : ℕ) (d : Bor (List ℕ) × V) → i < length xs
    → found_from word xs i ≡ cond (bytes_eq word (get_or xs i d).0.now) (Some (get_or xs i d).1) (found_from word xs (i + 1))
row_at word xs i d l = rw (add-one, drop-cons xs i d)

found_at : {V : Type 0} → (word : List ℕ) (xs : List (Bor (List ℕ) × V)) (i : ℕ) (row : Bor (List ℕ) × V) → i < length xs → row ≡ get_or xs i row
    → found_from word xs i ≡ cond (bytes_eq word row.0.now) (Some row.1) (found_from word xs (i + 1))
found_at word xs i row l is =
    row_at word xs i row l ∙ ap (λ r. cond (bytes_eq word r.0.now) (Some r.1) (found_from word xs (i + 1))) (sym is)

-- the row at a place is the one
pub found_here : {V : Type 0} → (word : List ℕ) (xs : List (Bor (List ℕ) × V)) (i : ℕ) (row : Bor (List ℕ) × V) → i < length xs → row ≡ get_or xs i row
    → bytes_eq word row.0.now ≡ true → found_from word xs i ≡ found_from word xs 0 → Some row.1 ≡ found_from word xs 0
found_here word xs i row l is here e =
    sym (found_at word xs i row l is ∙ ap (λ b. cond b (Some row.1) (found_from word xs (i + 1))) here) ∙ e

-- the row at a place is another
pub found_later : {V : Type 0} → (word : List ℕ) (xs : List (Bor (List ℕ) × V)) (i : ℕ) (row : Bor (List ℕ) × V) → i < length xs → row ≡ get_or xs i row
    → bytes_eq word row.0.now ≡ false → found_from word xs i ≡ found_from word xs 0 → found_from word xs (i + 1) ≡ found_from word xs 0
found_later word xs i row l is other e =
    sym (found_at word xs i row l is ∙ ap (λ b. cond b (Some row.1) (found_from word xs (i + 1))) other) ∙ e

-- no row is left
pub found_none : {V : Type 0} → (word : List ℕ) (xs : List (Bor (List ℕ) × V)) (i : ℕ) → length xs ≤ i → found_from word xs i ≡ found_from word xs 0 → None ≡ found_from word xs 0
found_none word xs i past e =
    let nothing : drop i xs ≡ [] = grind (arith, common_steps) in
    sym (ap (λ ys. lookup (bytes_eq word) (rows ys)) nothing) ∙ e
