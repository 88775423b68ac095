-- Lines that are made one after the other of two lists, up to the end of the shorter one.
use Rattle.std.proofs.Common.{◌≡◌, ◌⊎◌, inl, inr, ℕ, zero, suc, ◌+◌, ◌<◌, ◌≤◌, Option, Some, None, List, [], ◌∷◌, ◌++◌, length, take, map, get_or, refl, sym, ap, subst, ◌∙◌, arith}
use Rattle.std.proofs.lemmas.List.{get_or_default}
use Rattle.std.specs.Borrow.{Bor}
use Rattle.std.specs.List.{enumerate_from, zip}
use Rattle.std.specs.Prelude.{◌==◌}
use Rattle.std.specs.Slice.{IsItemAt}
use Rattle.fs_types.specs.declared.call.Version.{Version}
use Rattle.script.specs.declared.space_line.VersionLine.{VersionLine}
use Rattle.system.specs.declared.version_space.VersionSpace.{VersionSpace}
use Rattle.script_runs.specs.Scripts.{version_line}

-- what `get` gives
pub got_none : {X : Type 0} (xs : List X) (i : ℕ) (r : Option (Bor X)) → IsItemAt xs i r → r ≡ None → length xs ≤ i
got_none xs i r gives is = (subst (IsItemAt xs i) is gives).3

pub got_some : {X : Type 0} (xs : List X) (i : ℕ) (r : Option (Bor X)) (x : Bor X) → IsItemAt xs i r → r ≡ Some x → (i < length xs) × (get_or xs i x.now ≡ x.now)
got_some xs i r x gives is =
    let some : IsItemAt xs i (Some x) = subst (IsItemAt xs i) is gives in
    (some.3.0, sym some.1)

-- what is made of one pair more, at its place
places_more : {X Y Z : Type 0} (f : ℕ × (X × Y) → Z) (xs : List X) (ys : List Y) (n i : ℕ) (x : X) (y : Y) → i < length xs → i < length ys → get_or xs i x ≡ x → get_or ys i y ≡ y
    → map f (take (suc i) (enumerate_from n (zip xs ys))) ≡ map f (take i (enumerate_from n (zip xs ys))) ++ f (n + i, (x, y)) ∷ []
places_more f [] ys n i x y within there at has = absurd (omega arith)
places_more f (a ∷ xs) [] n i x y within there at has = absurd (omega arith)
places_more f (a ∷ xs) (b ∷ ys) n zero x y within there at has =
    let first : n ≡ n + 0 = omega arith in
    λ j. f (first j, (at j, has j)) ∷ []
places_more f (a ∷ xs) (b ∷ ys) n (suc i) x y within there at has =
    let next : n + 1 + i ≡ n + suc i = omega arith in
    ap (λ l. f (n, (a, b)) ∷ l) (places_more f xs ys (n + 1) i x y (omega arith) (omega arith) at has ∙ ap (λ (k : ℕ). map f (take i (enumerate_from (n + 1) (zip xs ys))) ++ f (k, (x, y)) ∷ []) next)

place_more : {X Y Z : Type 0} (f : ℕ × (X × Y) → Z) (xs : List X) (ys : List Y) (i : ℕ) (x : X) (y : Y) → i < length xs → i < length ys → get_or xs i x ≡ x → get_or ys i y ≡ y
    → map f (take (i + 1) (enumerate_from 0 (zip xs ys))) ≡ map f (take i (enumerate_from 0 (zip xs ys))) ++ f (i, (x, y)) ∷ []
place_more f xs ys i x y within there at has =
    let next : i + 1 ≡ suc i = omega arith in
    let here : 0 + i ≡ i = omega arith in
    ap (λ (n : ℕ). map f (take n (enumerate_from 0 (zip xs ys)))) next ∙ places_more f xs ys 0 i x y within there at has
    ∙ ap (λ (n : ℕ). map f (take i (enumerate_from 0 (zip xs ys))) ++ f (n, (x, y)) ∷ []) here

pub places_all : {X Y Z : Type 0} (f : ℕ × (X × Y) → Z) (xs : List X) (ys : List Y) (n i : ℕ) → (length xs ≤ i) ⊎ (length ys ≤ i) → map f (take i (enumerate_from n (zip xs ys))) ≡ map f (enumerate_from n (zip xs ys))
places_all f [] ys n zero past = refl
places_all f [] ys n (suc i) past = refl
places_all f (x ∷ xs) [] n zero past = refl
places_all f (x ∷ xs) [] n (suc i) past = refl
places_all f (x ∷ xs) (y ∷ ys) n zero (inl past) = absurd (omega arith)
places_all f (x ∷ xs) (y ∷ ys) n zero (inr past) = absurd (omega arith)
places_all f (x ∷ xs) (y ∷ ys) n (suc i) (inl past) = ap (λ l. f (n, (x, y)) ∷ l) (places_all f xs ys (n + 1) i (inl (omega arith)))
places_all f (x ∷ xs) (y ∷ ys) n (suc i) (inr past) = ap (λ l. f (n, (x, y)) ∷ l) (places_all f xs ys (n + 1) i (inr (omega arith)))

-- a version more
pub version_made : (cursor present : ℕ) (xs : List (Version ℕ)) (ys : List VersionSpace) (i : ℕ) (d : Version ℕ) (y : VersionSpace) (made new : List VersionLine) → i < length xs → i < length ys → get_or ys i y ≡ y
    → made ≡ map (version_line cursor) (take i (enumerate_from 0 (zip xs ys))) → present ≡ cursor
    → new ≡ made ++ record { serial = (get_or xs i d).serial; frees = y.frees; alone = y.alone; is_present = i == present } ∷ []
    → new ≡ map (version_line cursor) (take (i + 1) (enumerate_from 0 (zip xs ys)))
version_made cursor present xs ys i d y made new within there has so_far is grown =
    grown ∙ ap (λ (l : List VersionLine). l ++ version_line present (i, (get_or xs i d, y)) ∷ []) so_far
    ∙ ap (λ (n : ℕ). map (version_line cursor) (take i (enumerate_from 0 (zip xs ys))) ++ version_line n (i, (get_or xs i d, y)) ∷ []) is
    ∙ sym (place_more (version_line cursor) xs ys i (get_or xs i d) y within there (get_or_default xs i (get_or xs i d) d within) has)
