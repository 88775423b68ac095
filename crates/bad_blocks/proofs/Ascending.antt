-- A set that is kept as an ascending list: its members, its size, and a member more.
use Rattle.std.proofs.Common.{◌≡◌, ℕ, ◌+◌, ◌-◌, ◌<◌, ◌≤◌, true, false, ◌||◌, eqb, List, [], ◌∷◌, length, get_or, Result, Ok, Err, refl, sym, ap, ◌∙◌, subst, inl, inr, arith, is_ok}
use Rattle.std.proofs.lemmas.Bool.{eq-eqb, ne_eqb, eqb-true, cases_lt, cases_order}
use Rattle.std.proofs.lemmas.Cmp.{nat_cmp_total}
use Rattle.std.proofs.lemmas.List.Edits.{length-insert, get_or-insert_below, get_or-insert_at, get_or-insert_above}
use Rattle.std.proofs.lemmas.List.Elements.{All-from_get_or}
use Rattle.std.proofs.lemmas.List.Folds.{list_any_none, list_any_at}
use Rattle.std.proofs.lemmas.List.Sorted.{searched, IsPermutation-insert, list_any-IsPermutation}
use Rattle.std.proofs.lemmas.Map.Keys.{sorted_from_strictly_increasing, non_decreasing_from_sorted, IsDistinct-from_sorted, IsDistinct-head, IsDistinct-tail}
use Rattle.std.specs.Cmp.{unsigned_tied}
use Rattle.std.specs.FinMap.{nat_cmp-IsAntisymmetric}
use Rattle.std.specs.FinSet as set
use Rattle.std.specs.List.{insert, list_any, AllByRecursion, IsDistinct}
use Rattle.std.specs.List.Sorted.{IsStrictlyIncreasing, IsBinarySearchResult}
use Rattle.std.specs.Ordering.{nat_cmp, eq_by_cmp}

-- the set of a list's members
abbrev pub set_of : List ℕ → set.FinSet nat_cmp
set_of xs = set.from_list xs

contains_at : (xs : List ℕ) (x i : ℕ) → i < length xs → get_or xs i 0 ≡ x → set.contains (set_of xs) x ≡ true
contains_at xs x i lt at = set.contains-from_list_nat xs x ∙ list_any_at (λ y. eqb y x) xs i 0 lt (eq-eqb _ _ at)

contains_none : (xs : List ℕ) (x i : ℕ)
    → ((k : ℕ) → k < i → get_or xs k 0 < x) → ((k : ℕ) → i ≤ k → k < length xs → x < get_or xs k 0)
    → set.contains (set_of xs) x ≡ false
contains_none xs x i below above =
    let other : (k : ℕ) → k < length xs → eqb (get_or xs k 0) x ≡ false =
    λ k lt. ne_eqb _ _ (elim (cases_lt k i) [
      | inl before ↦ let h = below k before in omega arith
      | inr from ↦ let h = above k from lt in omega arith
    ]) in
    set.contains-from_list_nat xs x ∙ list_any_none (λ y. eqb y x) xs (All-from_get_or (λ y. eqb y x ≡ false) xs 0 other)

pub non_decreasing : (xs : List ℕ) → IsStrictlyIncreasing xs → (i j : ℕ) → i ≤ j → j < length xs → get_or xs i 0 ≤ get_or xs j 0
non_decreasing xs up i j le lt = non_decreasing_from_sorted xs (sorted_from_strictly_increasing xs up) i j 0 le lt

-- what a binary search finds is a member
pub contains_found : (xs : List ℕ) (x i : ℕ) → IsStrictlyIncreasing xs → IsBinarySearchResult (λ y. nat_cmp y x) xs (Ok i)
    → set.contains (set_of xs) x ≡ true
contains_found xs x i up found =
    let at = searched xs x (Ok i) found (non_decreasing xs up) in contains_at xs x i at.0 at.1

-- what it misses is none
pub contains_missed : (xs : List ℕ) (x i : ℕ) → IsStrictlyIncreasing xs → IsBinarySearchResult (λ y. nat_cmp y x) xs (Err i)
    → set.contains (set_of xs) x ≡ false
contains_missed xs x i up missed =
    let at = searched xs x (Err i) missed (non_decreasing xs up) in contains_none xs x i at.1 at.2

pub contains_searched : (xs : List ℕ) (x : ℕ) (r : Result ℕ ℕ) → IsStrictlyIncreasing xs → IsBinarySearchResult (λ y. nat_cmp y x) xs r
    → is_ok r ≡ set.contains (set_of xs) x
contains_searched xs x (Ok i) up found = sym (contains_found xs x i up found)
contains_searched xs x (Err i) up missed = sym (contains_missed xs x i up missed)

-- an insert at any place adds the element to the set
pub from_list-insert : (xs : List ℕ) (i x : ℕ) → set_of (insert xs i x) ≡ set.insert (set_of xs) x
from_list-insert xs i x =
    set.same_set nat_cmp_total nat_cmp-IsAntisymmetric _ _ (λ q.
    set.contains-from_list nat_cmp_total _ q
    ∙ sym (list_any-IsPermutation (eq_by_cmp nat_cmp q) (x ∷ xs) (insert xs i x) (IsPermutation-insert xs i x))
    ∙ sym (set.contains-from_list nat_cmp_total (x ∷ xs) q))

-- a member adds nothing
pub insert_present : (s : set.FinSet nat_cmp) (x : ℕ) → set.contains s x ≡ true → set.insert s x ≡ s
insert_present s x in_s =
    set.same_set nat_cmp_total nat_cmp-IsAntisymmetric _ _ (λ q.
    set.contains-insert nat_cmp_total s x q ∙ elim (eq_by_cmp nat_cmp q x) as (λ b. eq_by_cmp nat_cmp q x ≡ b → (b || set.contains s q) ≡ set.contains s q) [
      | true ↦ λ same. sym (subst (λ (k : ℕ). set.contains s k ≡ true) (sym (eqb-true q x (sym (unsigned_tied q x) ∙ same))) in_s)
      | false ↦ λ _. refl
    ] refl)

none_ties : (x : ℕ) (xs : List ℕ) → AllByRecursion (λ y. eq_by_cmp nat_cmp x y ≡ false) xs → list_any (eq_by_cmp nat_cmp x) xs ≡ false
none_ties x [] none = refl
none_ties x (y ∷ ys) none = rw none.0 (none_ties x ys none.1)

-- the first member of a list without doubles is not in the set of the others
pub not_in_rest : (x : ℕ) (xs : List ℕ) → IsDistinct (eq_by_cmp nat_cmp) (x ∷ xs) → set.contains (set_of xs) x ≡ false
not_in_rest x xs apart = set.contains-from_list nat_cmp_total xs x ∙ none_ties x xs (IsDistinct-head _ x xs apart)

len_of_distinct : (xs : List ℕ) → IsDistinct (eq_by_cmp nat_cmp) xs → set.len (set_of xs) ≡ length xs
len_of_distinct [] apart = set.len-empty nat_cmp
len_of_distinct (x ∷ xs) apart =
    let new : set.contains (set_of xs) x ≡ false = not_in_rest x xs apart in
    let more : set.len (set_of xs) ≡ length xs = len_of_distinct xs (IsDistinct-tail _ x xs apart) in
    rw (set.len-insert nat_cmp_total (set_of xs) x, new) (omega arith)

-- the set has as many members as the list
pub len_of_ascending : (xs : List ℕ) → IsStrictlyIncreasing xs → set.len (set_of xs) ≡ length xs
len_of_ascending xs up = len_of_distinct xs (IsDistinct-from_sorted nat_cmp xs (sorted_from_strictly_increasing xs up))

-- of two neighbours that the insert moved up the first is lower
past_place : (xs : List ℕ) (x i j k : ℕ) → IsStrictlyIncreasing xs → i ≤ length xs → i ≤ j → j + 1 ≡ k → k < length xs
    → get_or (insert xs i x) k 0 < get_or (insert xs i x) (k + 1) 0
past_place xs x i j k up within from next lt =
    let step : get_or xs j 0 < get_or xs (j + 1) 0 = up j (omega arith) in
    let first : get_or (insert xs i x) k 0 ≡ get_or xs j 0 =
    ap (λ n. get_or (insert xs i x) n 0) (sym next) ∙ get_or-insert_above xs i x 0 j from within in
    rw (first, get_or-insert_above xs i x 0 k (omega arith) within) (subst (λ (n : ℕ). get_or xs j 0 < get_or xs n 0) next step)

-- a full set has a full list
pub full_list : (xs : List ℕ) (s : set.FinSet nat_cmp) → IsStrictlyIncreasing xs → set_of xs ≡ s → set.len s ≡ 256 → eqb (length xs) 256 ≡ true
full_list xs s up is full = eq-eqb _ 256 (sym (len_of_ascending xs up) ∙ ap set.len is ∙ full)

-- of two neighbours of which the second was moved up by the insert, the first is lower
ascending_past : (xs : List ℕ) (x i k : ℕ) → IsStrictlyIncreasing xs → ((k : ℕ) → i ≤ k → k < length xs → x < get_or xs k 0)
    → i ≤ length xs → i ≤ k → k < length xs → get_or (insert xs i x) k 0 < get_or (insert xs i x) (k + 1) 0
ascending_past xs x i k up above within from lt =
    elim (cases_lt i k) [
      | inl past ↦ past_place xs x i (k - 1) k up within (omega arith) (omega arith) lt
      | inr here ↦
          let same : k ≡ i = omega arith in
          let after : x < get_or xs k 0 = above k from lt in
          let first : get_or (insert xs i x) k 0 ≡ x = ap (λ n. get_or (insert xs i x) n 0) same ∙ get_or-insert_at xs i x 0 within in
          rw (first, get_or-insert_above xs i x 0 k from within) after
    ]

-- an insert where a binary search says keeps the list ascending
pub ascending-insert : (xs : List ℕ) (x i : ℕ) → IsStrictlyIncreasing xs → IsBinarySearchResult (λ y. nat_cmp y x) xs (Err i)
    → IsStrictlyIncreasing (insert xs i x)
ascending-insert xs x i up found k last =
    let at = searched xs x (Err i) found (non_decreasing xs up) in
    let within : i ≤ length xs = at.0 in
    let long : length (insert xs i x) ≡ length xs + 1 = length-insert xs i x within in
    elim (cases_order (k + 1) i) [
      | inl next ↦
          let before : get_or xs k 0 < x = at.1 k (omega arith) in
          rw (get_or-insert_below xs i x 0 k (omega arith) within, next, get_or-insert_at xs i x 0 within) before
      | inr (inl lower) ↦
          let step : get_or xs k 0 < get_or xs (k + 1) 0 = up k (omega arith) in
          rw (get_or-insert_below xs i x 0 k (omega arith) within, get_or-insert_below xs i x 0 (k + 1) lower within) step
      | inr (inr higher) ↦ ascending_past xs x i k up at.2 within (omega arith) (omega arith)
    ]
