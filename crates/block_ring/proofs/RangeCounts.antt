-- How many numbers of a range pass a test: ranges in two parts, and tests by the bits of words and by a list.
use Rattle.std.proofs.Common.{◌≡◌, ◌≢◌, ℕ, zero, suc, ◌+◌, ◌-◌, ◌*◌, ◌/◌, ◌%◌, ◌^◌, ◌<◌, ◌≤◌, Bool, true, false, not, cond, ◌&&◌, ◌||◌, eqb, leb, ltb, List, [], ◌∷◌, length, get_or, refl, sym, ap, ◌∙◌, inl, inr, arith}
use Rattle.std.proofs.lemmas.Bool.{cases_order, cases_Bool, and_parts, and_from, false_from_ne_true, eq-eqb, ne_eqb, lt-ltb, le-leb, leb-true, ltb-true}
use Rattle.std.proofs.lemmas.Grind.{get_or_default_zero}
use Rattle.std.proofs.lemmas.Cmp.{nat_cmp_total}
use Rattle.std.proofs.lemmas.List.FromFn.{length-range_with_len}
use Rattle.std.proofs.lemmas.List.Sums.{sum_by-cons, count_by-le-length}
use Rattle.std.proofs.lemmas.Map.Keys.{sorted_from_strictly_increasing, IsDistinct-from_sorted, IsDistinct-tail}
use Rattle.std.proofs.lemmas.Nat.{ones-le}
use Rattle.std.proofs.lemmas.Nat.Bits.{bit_at-suc, bit_at_lowest, bit_at-lt}
use Rattle.std.proofs.Math.Nat.{pow-suc}
use Rattle.std.specs.Cmp.{unsigned_tied}
use Rattle.std.specs.FinSet as set
use Rattle.std.specs.Int.{bit_at}
use Rattle.std.specs.Int.Count.{ones_step}
use Rattle.std.specs.List.{range_with_len, IsDistinct}
use Rattle.std.specs.List.Sorted.{IsStrictlyIncreasing}
use Rattle.std.specs.Ordering.{nat_cmp, eq_by_cmp}
use Rattle.std.specs.Prelude.{count_by, count_ones}
use Rattle.bad_blocks.proofs.Ascending.{set_of, not_in_rest}
use Rattle.fs_types.specs.declared.limits.TheConstants.{ANCHORS}
use Rattle.block_ring.specs.Bits.{is_set}
use Rattle.block_ring.specs.FreeCount.{count_less}
use Rattle.block_ring.specs.Ring.{AreDataBlocks, data_blocks}

abbrev one_if : Bool → ℕ
one_if b = cond b 1 0

-- two tests that agree at the same places of two ranges count alike
pub count_moved : (p q : ℕ → Bool) (a b n : ℕ) → ((c : ℕ) → c < n → p (a + c) ≡ q (b + c))
    → count_by p (range_with_len a n) ≡ count_by q (range_with_len b n)
count_moved p q a b zero alike = refl
count_moved p q a b (suc n) alike =
    let head : p a ≡ q b = ap p (let e : a ≡ a + 0 = omega arith in e) ∙ alike 0 (omega arith) ∙ ap q (let e : b + 0 ≡ b = omega arith in e) in
    let rest = count_moved p q (a + 1) (b + 1) n (λ c low.
    ap p (let e : a + 1 + c ≡ a + (1 + c) = omega arith in e) ∙ alike (1 + c) (omega arith) ∙ ap q (let e : b + (1 + c) ≡ b + 1 + c = omega arith in e)) in
    sum_by-cons (λ c. one_if (p c)) a (range_with_len (a + 1) n) ∙ ap (λ k. one_if (p a) + k) rest
    ∙ ap (λ t. one_if t + count_by q (range_with_len (b + 1) n)) head
    ∙ sym (sum_by-cons (λ c. one_if (q c)) b (range_with_len (b + 1) n))

-- a range in two parts
pub count_split : (p : ℕ → Bool) (a m n k j : ℕ) → m + n ≡ k → a + m ≡ j
    → count_by p (range_with_len a k) ≡ count_by p (range_with_len a m) + count_by p (range_with_len j n)
count_split p a zero n k j all next =
    let none : count_by p (range_with_len a 0) ≡ 0 = refl in
    let whole : count_by p (range_with_len a k) ≡ count_by p (range_with_len j n) =
    ap (λ t. count_by p (range_with_len a t)) (let e : k ≡ n = omega arith in e) ∙ ap (λ t. count_by p (range_with_len t n)) (let e : a ≡ j = omega arith in e) in
    omega arith
count_split p a (suc m) n zero j all next = absurd (omega arith)
count_split p a (suc m) n (suc k) j all next =
    let rest = count_split p (a + 1) m n k j (omega arith) (omega arith) in
    omega (arith, sum_by-cons (λ c. one_if (p c)) a (range_with_len (a + 1) k), sum_by-cons (λ c. one_if (p c)) a (range_with_len (a + 1) m))

-- a test that nothing of the range passes
pub count_none : (p : ℕ → Bool) (a n : ℕ) → ((c : ℕ) → c < n → p (a + c) ≡ false) → count_by p (range_with_len a n) ≡ 0
count_none p a zero none = refl
count_none p a (suc n) none =
    let head : one_if (p a) ≡ 0 = ap one_if (ap p (let e : a ≡ a + 0 = omega arith in e) ∙ none 0 (omega arith)) in
    let rest = count_none p (a + 1) n (λ c low. ap p (let e : a + 1 + c ≡ a + (1 + c) = omega arith in e) ∙ none (1 + c) (omega arith)) in
    omega (arith, sum_by-cons (λ c. one_if (p c)) a (range_with_len (a + 1) n))

pub count_fits : (p : ℕ → Bool) (a n : ℕ) → count_by p (range_with_len a n) ≤ n
count_fits p a n = omega (arith, count_by-le-length p (range_with_len a n), length-range_with_len a n)

digit_of : (t : ℕ) → t < 2 → one_if (eqb t 1) ≡ t
digit_of zero few = refl
digit_of (suc zero) few = refl
digit_of (suc (suc t)) few = absurd (omega arith)

-- the bits of a number of d digits
count_bits : (d n : ℕ) → n < 2 ^ d → count_ones n ≡ count_by (λ i. eqb (bit_at n i) 1) (range_with_len 0 d)
count_bits zero n fits = omega (arith, ones-le 0 n fits)
count_bits (suc d) n fits =
    let half = count_bits d (n / 2) (omega (arith, pow-suc 2 d)) in
    let moved = count_moved (λ i. eqb (bit_at n i) 1) (λ i. eqb (bit_at (n / 2) i) 1) 1 0 d (λ c low.
    ap (λ i. eqb (bit_at n i) 1) (let e : 1 + c ≡ suc c = omega arith in e) ∙ ap (λ t. eqb t 1) (bit_at-suc n c) ∙ ap (λ i. eqb (bit_at (n / 2) i) 1) (let e : c ≡ 0 + c = omega arith in e)) in
    let lowest : one_if (eqb (bit_at n 0) 1) ≡ n % 2 = digit_of (bit_at n 0) (bit_at-lt n 0) ∙ bit_at_lowest n in
    omega (arith, ones_step n, sum_by-cons (λ i. one_if (eqb (bit_at n i) 1)) 0 (range_with_len 1 d))

-- one word more
pub count_word : (words : List ℕ) (k word : ℕ) → k < length words → word ≡ get_or words k word → word < 2 ^ 64
    → count_by (is_set words) (range_with_len 0 (64 * (k + 1))) ≡ count_by (is_set words) (range_with_len 0 (64 * k)) + count_ones word
count_word words k word within read fits =
    let at : word ≡ get_or words k 0 = read ∙ get_or_default_zero words k word within in
    let moved = count_moved (is_set words) (λ i. eqb (bit_at word i) 1) (64 * k) 0 64 (λ c low.
    ap (λ i. eqb (bit_at (get_or words i 0) ((64 * k + c) % 64)) 1) (let e : (64 * k + c) / 64 ≡ k = omega arith in e)
    ∙ ap (λ w. eqb (bit_at w ((64 * k + c) % 64)) 1) (sym at)
    ∙ ap (λ i. eqb (bit_at word i) 1) (let e : (64 * k + c) % 64 ≡ 0 + c = omega arith in e)) in
    omega (arith, count_split (is_set words) 0 (64 * k) 64 (64 * (k + 1)) (64 * k) (omega arith) (omega arith), count_bits 64 word fits)

split_in_three : (x y : Bool) → one_if (not (x || y)) + one_if x + one_if (y && not x) ≡ 1
split_in_three true true = refl
split_in_three true false = refl
split_in_three false true = refl
split_in_three false false = refl

-- a number passes neither test, the first one, or the second one alone
pub count_neither : (p q : ℕ → Bool) (a n : ℕ)
    → count_by (λ c. not (p c || q c)) (range_with_len a n) + count_by p (range_with_len a n) + count_by (λ c. q c && not (p c)) (range_with_len a n) ≡ n
count_neither p q a zero = refl
count_neither p q a (suc n) =
    omega (
      arith,
      count_neither p q (a + 1) n,
      split_in_three (p a) (q a),
      sum_by-cons (λ c. one_if (not (p c || q c))) a (range_with_len (a + 1) n),
      sum_by-cons (λ c. one_if (p c)) a (range_with_len (a + 1) n),
      sum_by-cons (λ c. one_if (q c && not (p c))) a (range_with_len (a + 1) n),
    )

-- the numbers from a up to e
abbrev in_range : ℕ → ℕ → ℕ → Bool
in_range a e x = leb a x && ltb x e

-- a member of the set of a list with x in front is x, or one of the others
in_longer : (x c : ℕ) (xs : List ℕ) → set.contains (set_of (x ∷ xs)) c ≡ (eqb c x || set.contains (set_of xs) c)
in_longer x c xs = set.contains-insert nat_cmp_total (set_of xs) x c ∙ ap (λ t. t || set.contains (set_of xs) c) (unsigned_tied c x)

abbrev is_listed : (ℕ → Bool) → List ℕ → ℕ → Bool
is_listed p xs c = set.contains (set_of xs) c && p c

count_distinct : (p : ℕ → Bool) (a n e : ℕ) (xs : List ℕ) → IsDistinct (eq_by_cmp nat_cmp) xs → n ≡ e - a
    → count_by (λ c. set.contains (set_of xs) c && p c) (range_with_len a n) ≡ count_by (λ x. in_range a e x && p x) xs
count_distinct p a n e [] apart end = count_none _ a n (λ c low. ap (λ t. t && p (a + c)) (set.contains-empty nat_cmp (a + c)))
count_distinct p a n e (x ∷ xs) apart end =
    let rest = count_distinct p a n e xs (IsDistinct-tail _ x xs apart) end in
    let listed = sum_by-cons (λ y. one_if (in_range a e y && p y)) x xs in
    let here : is_listed p (x ∷ xs) x ≡ p x = ap (λ t. t && p x) (in_longer x x xs ∙ ap (λ t. t || set.contains (set_of xs) x) (eq-eqb x x refl)) in
    let before : is_listed p xs x ≡ false = ap (λ t. t && p x) (not_in_rest x xs apart) in
    let others : (c : ℕ) → c ≢ x → is_listed p (x ∷ xs) c ≡ is_listed p xs c =
    λ c other. ap (λ t. t && p c) (in_longer x c xs ∙ ap (λ t. t || set.contains (set_of xs) c) (ne_eqb c x other)) in
    elim (cases_Bool (in_range a e x && p x)) [
      | inl passes ↦
          let parts = and_parts (in_range a e x) (p x) passes in
          let within = and_parts (leb a x) (ltb x e) parts.0 in
          let low : a ≤ x = leb-true a x within.0 in
          let high : x < e = ltb-true x e within.1 in
          let more = count_less (is_listed p (x ∷ xs)) (is_listed p xs) a n x low (omega arith) (here ∙ parts.1) before others in
          omega (arith, ap one_if passes)
      | inr fails ↦
          let same = count_moved (is_listed p (x ∷ xs)) (is_listed p xs) a a n (λ c low. elim (cases_order (a + c) x) [
            | inl at ↦
                let within : in_range a e x ≡ true = and_from _ _ (le-leb a x (omega arith)) (lt-ltb x e (omega arith)) in
                let no_pass : p x ≡ false = sym (ap (λ t. t && p x) within) ∙ fails in
                ap (is_listed p (x ∷ xs)) at ∙ here ∙ no_pass ∙ sym (ap (is_listed p xs) at ∙ before)
            | inr (inl less) ↦ others (a + c) (omega arith)
            | inr (inr more) ↦ others (a + c) (omega arith)
          ]) in
          omega (arith, ap one_if fails)
    ]

-- the numbers of a range that are in the set of an ascending list and pass a test are those of the list
pub count_listed : (p : ℕ → Bool) (a n e : ℕ) (xs : List ℕ) → IsStrictlyIncreasing xs → n ≡ e - a
    → count_by (λ c. set.contains (set_of xs) c && p c) (range_with_len a n) ≡ count_by (λ x. leb a x && ltb x e && p x) xs
count_listed p a n e xs up end = count_distinct p a n e xs (IsDistinct-from_sorted nat_cmp xs (sorted_from_strictly_increasing xs up)) end

and_true : (t : Bool) → (t && true) ≡ t
and_true true = refl
and_true false = refl

-- the numbers of a range that are in the set are those of the list
pub count_members : (bad : set.FinSet nat_cmp) (a n e : ℕ) (xs : List ℕ) → IsStrictlyIncreasing xs → set_of xs ≡ bad → n ≡ e - a
    → count_by (set.contains bad) (range_with_len a n) ≡ count_by (λ x. leb a x && ltb x e) xs
count_members bad a n e xs up is end =
    ap (λ t. count_by (set.contains t) (range_with_len a n)) (sym is)
    ∙ sym (λ i. count_by (λ c. and_true (set.contains (set_of xs) c) i) (range_with_len a n))
    ∙ count_listed (λ _. true) a n e xs up end ∙ (λ i. count_by (λ x. and_true (leb a x && ltb x e) i) xs)

-- the data blocks are free, in the set, or bad and not in it
pub count_free : (s bad : set.FinSet nat_cmp) (n : ℕ) (xs : List ℕ) → ANCHORS ≤ n → AreDataBlocks n s → IsStrictlyIncreasing xs → set_of xs ≡ bad
    → count_by (λ c. not (set.contains s c || set.contains bad c)) (data_blocks n) + count_by (set.contains s) (range_with_len 0 n)
    + count_by (λ x. leb ANCHORS x && ltb x n && not (set.contains s x)) xs ≡ n - ANCHORS
count_free s bad n xs size all up is =
    let p : ℕ → Bool = set.contains s in
    let anchors = count_none p 0 ANCHORS (λ c low. false_from_ne_true (p (0 + c)) (λ is_in. let at = all (0 + c) is_in in absurd (omega arith))) in
    let listed = count_listed (λ c. not (p c)) ANCHORS (n - ANCHORS) n xs up (omega arith) in
    let beside = ap (λ t. count_by (λ c. set.contains t c && not (p c)) (data_blocks n)) is in
    omega (arith, count_split p 0 ANCHORS (n - ANCHORS) n ANCHORS (omega arith) refl, count_neither p (set.contains bad) ANCHORS (n - ANCHORS))

either_way : (x y : Bool) → (x || y) ≡ (y || x)
either_way true true = refl
either_way true false = refl
either_way false true = refl
either_way false false = refl

-- the free ones are the same, whichever set is asked first
pub count_other_way : (s t : set.FinSet nat_cmp) (n : ℕ)
    → count_by (λ c. not (set.contains s c || set.contains t c)) (data_blocks n) ≡ count_by (λ c. not (set.contains t c || set.contains s c)) (data_blocks n)
count_other_way s t n i = count_by (λ c. not (either_way (set.contains s c) (set.contains t c) i)) (data_blocks n)
