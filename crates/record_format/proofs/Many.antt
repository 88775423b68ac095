-- So many items, read one after the other.
use Rattle.std.proofs.Common.{◌≡◌, ℕ, zero, suc, ◌+◌, ◌-◌, ◌<◌, List, [], ◌∷◌, ◌++◌, length, Option, Some, None, refl, sym, ap, ◌∙◌, append_assoc, arith}
use Rattle.std.proofs.lemmas.List.{append-nil}
use Rattle.std.specs.List.{flat_map, list_all}
use Rattle.std.proofs.Common.{Bool, true, false}
use Rattle.std.specs.Prelude.{◌&&◌}
use Rattle.fields.specs.Numbers.{◌>>=◌}
use Rattle.fields.proofs.Found.{bind_some, some_is}
use Rattle.record_format.specs.Items.{many_at}

-- items that are read come after those that were read before
abbrev pub onto : {X : Type 0} → List X → Option (List X × List ℕ) → Option (List X × List ℕ)
onto xs None = None
onto xs (Some (ys, rest)) = Some (xs ++ ys, rest)

onto_more : {X : Type 0} (xs : List X) (x : X) (rest : Option (List X × List ℕ)) → onto (xs ++ x ∷ []) rest ≡ onto xs (rest >>= (λ others. Some (x ∷ others.0, others.1)))
onto_more xs x None = refl
onto_more xs x (Some (ys, rest)) = ap (λ zs. Some (zs, rest)) (append_assoc xs (x ∷ []) ys)

many_first : {X : Type 0} (item : List ℕ → Option (X × List ℕ)) (n : ℕ) (bytes : List ℕ) (x : X) (after : List ℕ) → item bytes ≡ Some (x, after)
    → many_at item (suc n) bytes ≡ (many_at item n after >>= (λ others. Some (x ∷ others.0, others.1)))
unfolding many_at
many_first item n bytes x after read = rw read refl

pub many_goes_on : {X : Type 0} (item : List ℕ → Option (X × List ℕ)) (xs : List X) (count i : ℕ) (bytes : List ℕ) (x : X) (after : List ℕ) (total : Option (List X × List ℕ)) → i < count
    → Some (x, after) ≡ item bytes → onto xs (many_at item (count - i) bytes) ≡ total → onto (xs ++ x ∷ []) (many_at item (count - (i + 1)) after) ≡ total
many_goes_on item xs count i bytes x after total lt read so_far =
    let k : suc (count - (i + 1)) ≡ count - i = omega arith in
    onto_more xs x (many_at item (count - (i + 1)) after)
    ∙ ap (onto xs) (sym (many_first item (count - (i + 1)) bytes x after (sym read)) ∙ ap (λ n. many_at item n bytes) k)
    ∙ so_far

many_none : {X : Type 0} (item : List ℕ → Option (X × List ℕ)) (n : ℕ) (bytes : List ℕ) → item bytes ≡ None → many_at item (suc n) bytes ≡ None
unfolding many_at
many_none item n bytes read = rw read refl

pub many_stops : {X : Type 0} (item : List ℕ → Option (X × List ℕ)) (xs : List X) (count i : ℕ) (bytes : List ℕ) (total : Option (List X × List ℕ)) → i < count
    → None ≡ item bytes → onto xs (many_at item (count - i) bytes) ≡ total → None ≡ total
many_stops item xs count i bytes total lt read so_far =
    let k : suc (count - (i + 1)) ≡ count - i = omega arith in
    sym (ap (onto xs) (ap (λ n. many_at item n bytes) (sym k) ∙ many_none item (count - (i + 1)) bytes (sym read))) ∙ so_far

pub many_ends : {X : Type 0} (item : List ℕ → Option (X × List ℕ)) (xs : List X) (count i : ℕ) (bytes : List ℕ) (total : Option (List X × List ℕ)) → i ≡ count
    → onto xs (many_at item (count - i) bytes) ≡ total → Some (xs, bytes) ≡ total
unfolding many_at
many_ends item xs count i bytes total same so_far =
    let k : count - i ≡ 0 = omega arith in
    sym (ap (λ n. onto xs (many_at item n bytes)) k ∙ ap (λ ys. Some (ys, bytes)) (append-nil xs)) ∙ so_far

-- so many items are that many
pub many_length : {X : Type 0} (item : List ℕ → Option (X × List ℕ)) (n : ℕ) (bytes : List ℕ) (ys : List X × List ℕ) → many_at item n bytes ≡ Some ys → length ys.0 ≡ n
unfolding many_at
many_length item zero bytes ys e = ap (λ (y : List _ × List ℕ). length y.0) (sym (some_is ([], bytes) ys e))
many_length item (suc n) bytes ys e =
    let first = bind_some (item bytes) _ ys e in
    let others = bind_some (many_at item n first.0.1) _ ys first.2 in
    ap (λ (y : List _ × List ℕ). length y.0) (sym (some_is (first.0.0 ∷ others.0.0, others.0.1) ys others.2)) ∙ ap suc (many_length item n first.0.1 others.0 others.1)

-- items that are spelled one after the other are read again
pub many_again : {X : Type 0} (item : List ℕ → Option (X × List ℕ)) (spell : X → List ℕ) (fits : X → Bool)
    → ((x : X) (rest : List ℕ) → fits x ≡ true → item (spell x ++ rest) ≡ Some (x, rest))
    → (xs : List X) (rest : List ℕ) → list_all fits xs ≡ true → many_at item (length xs) (flat_map spell xs ++ rest) ≡ Some (xs, rest)
unfolding many_at
many_again item spell fits again [] rest all = refl
many_again item spell fits again (x ∷ xs) rest all =
    let parts = both_true (fits x) (list_all fits xs) all in
    let regrouped : flat_map spell (x ∷ xs) ++ rest ≡ spell x ++ (flat_map spell xs ++ rest) = append_assoc (spell x) (flat_map spell xs) rest in
    ap (many_at item (suc (length xs))) regrouped
    ∙ rw (again x (flat_map spell xs ++ rest) parts.0, many_again item spell fits again xs rest parts.1) refl
  where
    both_true : (a b : Bool) → (a && b) ≡ true → (a ≡ true) × (b ≡ true)
    both_true true b e = (refl, e)
    both_true false b e = absurd cc
