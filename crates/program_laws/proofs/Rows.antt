-- Rows of places, serials and what is kept, one for each of two lists of the same length.
use Rattle.std.proofs.Common.{◌≡◌, ◌≢◌, ◌∙◌, ◌+◌, ◌<◌, ◌≤◌, ℕ, zero, suc, Bool, true, false, cond, Some, List, [], ◌∷◌, ◌++◌, length, map, refl, sym, ap, arith}
use Rattle.std.proofs.lemmas.Bool.{eqb-true, eqb-false, ne_eqb}
use Rattle.std.proofs.lemmas.List.Elements.{All-nil, All-cons, All-head, All-tail, All-from_recursion}
use Rattle.std.proofs.lemmas.List.Kept.{AllPairs-cons}
use Rattle.std.proofs.lemmas.List.Sums.{sum_by-cons}
use Rattle.std.specs.Prelude.{All, AllPairs, ◌==◌, count_by, slice_get}
use Rattle.std.specs.List.{flat_map, enumerate_from, zip}
use Rattle.std.specs.List.Sorted.{IsStrictlySortedBy}
use Rattle.std.specs.declared.cmp.Ordering.{Ordering}
use Rattle.std.specs.declared.cmp.Ordering.TheVariants.{Less}
use Rattle.plain_trees.proofs.Beneath.{None≢Some, same_Some}
use Rattle.program_laws.proofs.Pairs.{AllPairs-nil, AllPairs-head, AllPairs-tail}

-- what each element of a list makes of what another one made
pub flat_map-map : {X Y A : Type 0} (g : Y → List A) (f : X → Y) (xs : List X) → flat_map g (map f xs) ≡ flat_map (λ x. g (f x)) xs
flat_map-map g f [] = refl
flat_map-map {A = A} g f (x ∷ xs) = ap (λ (rest : List A). g (f x) ++ rest) (flat_map-map g f xs)

-- ---- a relation of what elements give

from_map : {X Y : Type 0} (P : Y → Type 0) (f : X → Y) (xs : List X) → All P (map f xs) → All (λ x. P (f x)) xs
from_map P f [] all = All-nil (λ x. P (f x))
from_map P f (x ∷ xs) all = All-cons (λ y. P (f y)) x xs (All-head P (f x) (map f xs) all) (from_map P f xs (All-tail P (f x) (map f xs) all))

pub AllPairs-from_map : {X Y : Type 0} (R : Y → Y → Type 0) (f : X → Y) (xs : List X) → AllPairs R (map f xs) → AllPairs (λ x y. R (f x) (f y)) xs
AllPairs-from_map R f [] pairs = AllPairs-nil (λ x y. R (f x) (f y))
AllPairs-from_map R f (x ∷ xs) pairs =
    AllPairs-cons (λ y z. R (f y) (f z)) x xs (from_map (R (f x)) f xs (AllPairs-head R (f x) (map f xs) pairs)) (AllPairs-from_map R f xs (AllPairs-tail R (f x) (map f xs) pairs))

to_map : {X Y : Type 0} (P : Y → Type 0) (f : X → Y) (xs : List X) → All (λ x. P (f x)) xs → All P (map f xs)
to_map P f [] all = All-nil P
to_map P f (x ∷ xs) all = All-cons P (f x) (map f xs) (All-head (λ y. P (f y)) x xs all) (to_map P f xs (All-tail (λ y. P (f y)) x xs all))

pub AllPairs-to_map : {X Y : Type 0} (R : Y → Y → Type 0) (f : X → Y) (xs : List X) → AllPairs (λ x y. R (f x) (f y)) xs → AllPairs R (map f xs)
AllPairs-to_map R f [] pairs = AllPairs-nil R
AllPairs-to_map R f (x ∷ xs) pairs =
    AllPairs-cons R (f x) (map f xs) (to_map (R (f x)) f xs (AllPairs-head (λ y z. R (f y) (f z)) x xs pairs)) (AllPairs-to_map R f xs (AllPairs-tail (λ y z. R (f y) (f z)) x xs pairs))

pub pairs_from_sorted : {K : Type 0} (c : K → K → Ordering) (ks : List K) → IsStrictlySortedBy c ks → AllPairs (λ k l. c k l ≡ Less) ks
unfolding IsStrictlySortedBy
pairs_from_sorted c [] sorted = AllPairs-nil (λ k l. c k l ≡ Less)
pairs_from_sorted c (k ∷ ks) sorted = AllPairs-cons (λ l m. c l m ≡ Less) k ks (All-from_recursion (λ l. c k l ≡ Less) ks sorted.0) (pairs_from_sorted c ks sorted.1)

-- ---- two lists side by side

pub zip-firsts : {X Y : Type 0} (xs : List X) (ys : List Y) → length xs ≡ length ys → map (λ (pair : X × Y). pair.0) (zip xs ys) ≡ xs
zip-firsts [] ys long = refl
zip-firsts (x ∷ xs) [] long = absurd (omega (arith, long))
zip-firsts {X = X} (x ∷ xs) (y ∷ ys) long = ap (λ (rest : List X). x ∷ rest) (zip-firsts xs ys (omega (arith, long)))

pub zip-seconds : {X Y : Type 0} (xs : List X) (ys : List Y) → length xs ≡ length ys → map (λ (pair : X × Y). pair.1) (zip xs ys) ≡ ys
zip-seconds [] [] long = refl
zip-seconds [] (y ∷ ys) long = absurd (omega (arith, long))
zip-seconds (x ∷ xs) [] long = absurd (omega (arith, long))
zip-seconds {Y = Y} (x ∷ xs) (y ∷ ys) long = ap (λ (rest : List Y). y ∷ rest) (zip-seconds xs ys (omega (arith, long)))

pub length-zip : {X Y : Type 0} (xs : List X) (ys : List Y) → length xs ≡ length ys → length (zip xs ys) ≡ length xs
length-zip [] ys long = refl
length-zip (x ∷ xs) [] long = absurd (omega (arith, long))
length-zip (x ∷ xs) (y ∷ ys) long = let rest : length (zip xs ys) ≡ length xs = length-zip xs ys (omega (arith, long)) in omega (arith, rest)

-- ---- elements with their places

-- what each gives, without its place
pub enumerate-map : {X Y : Type 0} (f : X → Y) (n : ℕ) (xs : List X) → map (λ (row : ℕ × X). f row.1) (enumerate_from n xs) ≡ map f xs
enumerate-map f n [] = refl
enumerate-map {Y = Y} f n (x ∷ xs) = ap (λ (rest : List Y). f x ∷ rest) (enumerate-map f (n + 1) xs)

-- the place of each
pub enumerate-place : {X : Type 0} (n : ℕ) (xs : List X) (i : ℕ) (row : ℕ × X) → slice_get (enumerate_from n xs) i ≡ Some row → row.0 ≡ n + i
enumerate-place n [] i row is = absurd (None≢Some is)
enumerate-place {X} n (x ∷ xs) zero row is = let here : n ≡ row.0 = ap (λ (e : ℕ × X). e.0) (same_Some is) in omega (arith, here)
enumerate-place n (x ∷ xs) (suc i) row is = let rest : row.0 ≡ n + 1 + i = enumerate-place (n + 1) xs i row is in omega (arith, rest)

pub map-map : {X Y Z : Type 0} (g : Y → Z) (f : X → Y) (xs : List X) → map g (map f xs) ≡ map (λ x. g (f x)) xs
map-map g f [] = refl
map-map {Z = Z} g f (x ∷ xs) = ap (λ (rest : List Z). g (f x) ∷ rest) (map-map g f xs)

pub count_by-map : {X Y : Type 0} (p : Y → Bool) (f : X → Y) (xs : List X) → count_by p (map f xs) ≡ count_by (λ x. p (f x)) xs
count_by-map p f [] = refl
count_by-map p f (x ∷ xs) =
    sum_by-cons (λ y. cond (p y) 1 0) (f x) (map f xs) ∙ ap (λ (n : ℕ). cond (p (f x)) 1 0 + n) (count_by-map p f xs) ∙ sym (sum_by-cons (λ y. cond (p (f y)) 1 0) x xs)

-- no place is one before them
place_none : {X : Type 0} (c n : ℕ) (xs : List X) → c < n → count_by (λ (row : ℕ × X). row.0 == c) (enumerate_from n xs) ≡ 0
place_none c n [] before = refl
place_none {X} c n (x ∷ xs) before =
    sum_by-cons (λ (row : ℕ × X). cond (row.0 == c) 1 0) (n, x) (enumerate_from (n + 1) xs)
    ∙ ap (λ (b : Bool). cond b 1 0 + count_by (λ (row : ℕ × X). row.0 == c) (enumerate_from (n + 1) xs)) (ne_eqb n c (λ same. omega (arith, same, before)))
    ∙ ap (λ (k : ℕ). 0 + k) (place_none c (n + 1) xs (omega (arith, before)))

-- and one among them is the place of one
pub place_once : {X : Type 0} (c n : ℕ) (xs : List X) → n ≤ c → c < n + length xs → count_by (λ (row : ℕ × X). row.0 == c) (enumerate_from n xs) ≡ 1
place_once c n [] from below = absurd (omega (arith, from, below))
place_once {X} c n (x ∷ xs) from below =
    sum_by-cons (λ (row : ℕ × X). cond (row.0 == c) 1 0) (n, x) (enumerate_from (n + 1) xs)
    ∙ go (n == c) (count_by (λ (row : ℕ × X). row.0 == c) (enumerate_from (n + 1) xs)) refl (λ same. place_none c (n + 1) xs (omega (arith, same))) (λ other. place_once c (n + 1) xs (omega (arith, other, from)) (omega (arith, below)))
  where
    go : (b : Bool) (rest : ℕ) → (n == c) ≡ b → (n ≡ c → rest ≡ 0) → (n ≢ c → rest ≡ 1) → cond b 1 0 + rest ≡ 1
    go true rest e none one = let counted : rest ≡ 0 = none (eqb-true n c e) in omega (arith, counted)
    go false rest e none one = let counted : rest ≡ 1 = one (eqb-false n c e) in omega (arith, counted)
