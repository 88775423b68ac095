-- A node of any index before another is at most two hops away for each binary digit.
use Rattle.std.proofs.Common.{◌≡◌, ℕ, zero, suc, ◌+◌, ◌-◌, ◌*◌, ◌/◌, ◌%◌, ◌^◌, ◌<◌, ◌≤◌, ◌⊎◌, inl, inr, refl, sym, ap, subst, ◌∙◌, arith, suc-mul}
use Rattle.std.specs.Int.{w32, bit_at, trailing_zeros}
use Rattle.std.specs.Prelude.{min}
use Rattle.std.proofs.Math.Nat.{div-add-mod', mul_assoc, mul-div_cancel, mul-mod_left, pow-suc, pow-succ', one-le-pow}
use Rattle.std.proofs.Math.Pow.{pow_mono}
use Rattle.std.proofs.lemmas.Bool.{cases_lt}
use Rattle.std.proofs.lemmas.Nat.Bits.{bit_at-trailing_zeros}
use Rattle.tree_edits.specs.Reading.{IsUseful, IsLargest}
use Rattle.node_format.specs.BodyNodes.{Divides}
use Rattle.node_format.specs.declared.headers.TheConstants.{SLOTS}

-- so many hops lead from index i to index j
abbrev pub Hops : ℕ → ℕ → ℕ → Type 0
Hops i j zero = i ≡ j
Hops i j (suc n) = (x : ℕ) × IsLargest x i j × Hops (i - 2 ^ x) j n

double : (x : ℕ) → 2 ^ suc x ≡ 2 ^ x + 2 ^ x
double x = omega (arith, pow-suc 2 x)

-- so many times twice a power
doubled : (m x : ℕ) → m * 2 ^ suc x ≡ m * 2 * 2 ^ x
doubled m x = ap (λ (p : ℕ). m * p) (pow-succ' 2 x) ∙ sym (mul_assoc m 2 (2 ^ x))

-- a lower place divides too
divides_lower : (x i : ℕ) → Divides (suc x) i → Divides x i
divides_lower x i (m, e) = (m * 2, e ∙ doubled m x)

divides_below : (d x i : ℕ) → Divides (d + x) i → Divides x i
divides_below zero x i h = subst (λ (k : ℕ). Divides k i) (omega arith) h
divides_below (suc d) x i h =
    let e : suc d + x ≡ suc (d + x) = omega arith in
    divides_below d x i (divides_lower (d + x) i (subst (λ (k : ℕ). Divides k i) e h))

pub divides_le : (x y i : ℕ) → y ≤ x → Divides x i → Divides y i
divides_le x y i le h =
    let e : x ≡ (x - y) + y = omega arith in
    divides_below (x - y) y i (subst (λ (k : ℕ). Divides k i) e h)

-- an even or an odd multiple
parity : (x i : ℕ) → Divides x i → Divides (suc x) i ⊎ Divides (suc x) (i - 2 ^ x)
parity x i (m, e) = elim (cases_lt 0 (m % 2)) [ inl odd ↦ inr (m / 2, minus odd) | inr even ↦ inl (m / 2, whole even) ]
  where
    half : m ≡ m / 2 * 2 + m % 2
    half = sym (div-add-mod' m 2)

    grown : m / 2 * 2 ^ suc x ≡ m / 2 * 2 * 2 ^ x
    grown = doubled (m / 2) x

    whole : m % 2 ≤ 0 → i ≡ m / 2 * 2 ^ suc x
    whole even =
        let k : m ≡ m / 2 * 2 = omega (arith, half) in
        e ∙ ap (λ (n : ℕ). n * 2 ^ x) k ∙ sym grown

    minus : 0 < m % 2 → i - 2 ^ x ≡ m / 2 * 2 ^ suc x
    minus odd =
        let k : m ≡ suc (m / 2 * 2) = omega (arith, half) in
        let f : i ≡ suc (m / 2 * 2) * 2 ^ x = e ∙ ap (λ (n : ℕ). n * 2 ^ x) k in
        omega (arith, f, suc-mul (m / 2 * 2) (2 ^ x), grown)

-- a place that leads no farther than another is not above it
below_by_pow : (x y : ℕ) → 2 ^ y < 2 ^ suc x → y ≤ x
below_by_pow x y lt = elim (cases_lt x y) [ inl above ↦ let h : 2 ^ suc x ≤ 2 ^ y = pow_mono {i = suc x} {j = y} (omega arith) in omega arith | inr below ↦ below ]

abbrev WithinHops : ℕ → ℕ → ℕ → Type 0
WithinHops i j most = (n : ℕ) × Hops i j n × (n ≤ most)

one_more : (x i j most : ℕ) → IsLargest x i j → WithinHops (i - 2 ^ x) j most → WithinHops i j (suc most)
one_more x i j most largest (n, hops, le) = (suc n, (x, largest, hops), omega arith)

more : (i j least most : ℕ) → least ≤ most → WithinHops i j least → WithinHops i j most
more i j least most le (n, hops, few) = (n, hops, omega arith)

after_one : (x i : ℕ) → Divides x i → Divides x (i - 2 ^ x)
after_one x i (m, e) = on m e
  where
    on : (m : ℕ) → i ≡ m * 2 ^ x → Divides x (i - 2 ^ x)
    on zero e = (0, omega arith)
    on (suc m) e = (m, omega (arith, suc-mul m (2 ^ x)))

-- no index and the one 2 to the x before it are both multiples of twice that
not_both : (x i : ℕ) → 2 ^ x ≤ i → Divides (suc x) i → Divides (suc x) (i - 2 ^ x) → ⊥
not_both x i le (m, e) (n, f) =
    let a : i ≡ m * 2 * 2 ^ x = e ∙ doubled m x in
    let b : i - 2 ^ x ≡ n * 2 * 2 ^ x = f ∙ doubled n x in
    let c : m * 2 * 2 ^ x ≡ suc (n * 2) * 2 ^ x = omega (arith, suc-mul (n * 2) (2 ^ x)) in
    let d : m * 2 ≡ suc (n * 2) = sym (mul-div_cancel (m * 2) {n = 2 ^ x} (one-le-pow x 2 (omega arith))) ∙ ap (λ (k : ℕ). k / 2 ^ x) c ∙ mul-div_cancel (suc (n * 2)) {n = 2 ^ x} (one-le-pow x 2 (omega arith)) in
    omega arith

-- a slot of a node leads towards an index that is not nearer
leads_on : (x i j : ℕ) → x < SLOTS → j + 2 ^ x ≤ i → Divides x i → IsUseful x i j
leads_on x i j lt far divides = ((lt, omega (arith, one-le-pow x 2 (omega arith), far), divides), far)

-- near the end, each hop halves what is left
descend : (x i j : ℕ) → x ≤ SLOTS → j ≤ i → i < j + 2 ^ x → Divides x i → WithinHops i j x
descend zero i j few le near divides = (0, omega arith, omega arith)
descend (suc x) i j few le near divides = elim (cases_lt i (j + 2 ^ x)) [
  | inl nearer ↦ more i j x (suc x) (omega arith) (descend x i j (omega arith) le nearer (divides_lower x i divides))
  | inr far ↦ one_more x i j x (largest far) (descend x (i - 2 ^ x) j (omega arith) (omega arith) (omega (arith, double x)) (after (divides_lower x i divides)))
]
  where
    largest : j + 2 ^ x ≤ i → IsLargest x i j
    largest far = (leads_on x i j (omega arith) far (divides_lower x i divides), λ y useful. below_by_pow x y (omega (arith, useful.1)))

    after : Divides x i → Divides x (i - 2 ^ x)
    after d = after_one x i d

-- on the way, each hop ends at an index with one more zero digit
climb : (left x i j : ℕ) → left + x ≤ SLOTS → j ≤ i → i < 2 ^ (left + x) → Divides x i → WithinHops i j (2 * left + x)
climb zero x i j few le small divides =
    let power : 2 ^ (0 + x) ≡ 2 ^ x = ap (λ (k : ℕ). 2 ^ k) (omega arith) in
    more i j x (2 * 0 + x) (omega arith) (descend x i j (omega arith) le (omega arith) divides)
climb (suc left) x i j few le small divides = elim (cases_lt i (j + 2 ^ x)) [
  | inl near ↦ more i j x (2 * suc left + x) (omega arith) (descend x i j (omega arith) le near divides)
  | inr far ↦ elim (parity x i divides) [
    | inl even ↦ more i j (2 * left + suc x) (2 * suc left + x) (omega arith) (climb left (suc x) i j (omega arith) le (omega (arith, power)) even)
    | inr odd ↦ farther far odd (climb left (suc x) (i - 2 ^ x) j (omega arith) (omega arith) (omega (arith, power)) odd)
  ]
]
  where
    power : 2 ^ (suc left + x) ≡ 2 ^ (left + suc x)
    power = ap (λ (k : ℕ). 2 ^ k) (omega arith)

    largest : j + 2 ^ x ≤ i → Divides (suc x) (i - 2 ^ x) → IsLargest x i j
    largest far odd = (
      leads_on x i j (omega arith) far divides,
      λ y useful. elim (cases_lt x y) [
        | inl above ↦ absurd (not_both x i (omega (arith, far)) (divides_le y (suc x) i (omega arith) useful.0.2) odd)
        | inr below ↦ below
      ],
    )

    farther : j + 2 ^ x ≤ i → Divides (suc x) (i - 2 ^ x) → WithinHops (i - 2 ^ x) j (2 * left + suc x) → WithinHops i j (2 * suc left + x)
    farther far odd rest = more i j (suc (2 * left + suc x)) (2 * suc left + x) (omega arith) (one_more x i j (2 * left + suc x) (largest far odd) rest)

-- however an index is reached from another by its farthest places, it takes at most two hops for each digit
pub few_hops : (i j digits : ℕ) → digits ≤ SLOTS → j ≤ i → i < 2 ^ digits → WithinHops i j (2 * digits)
few_hops i j digits few le small =
    let power : 2 ^ (digits + 0) ≡ 2 ^ digits = ap (λ (k : ℕ). 2 ^ k) (omega arith) in
    more i j (2 * digits + 0) (2 * digits) (omega arith) (climb digits 0 i j (omega arith) le (omega arith) (i, omega arith))

-- a hop by the farthest place is the first of the hops
pub next_hop : (x i j n : ℕ) → j < i → IsLargest x i j → Hops i j n → (m : ℕ) × (n ≡ suc m) × Hops (i - 2 ^ x) j m
next_hop x i j zero lt largest same = absurd (omega arith)
next_hop x i j (suc n) lt largest (y, other, hops) =
    let same : x ≡ y = omega (arith, other.1 x largest.0, largest.1 y other.0) in
    (n, refl, subst (λ (z : ℕ). Hops (i - 2 ^ z) j n) (sym same) hops)

-- ---- the farthest place

-- what is left after n digits that are 0
divides_digits : (x n : ℕ) → ((k : ℕ) → k < x → bit_at n k ≡ 0) → Divides x n
divides_digits zero n zeros = (n, omega arith)
divides_digits (suc x) n zeros = up (divides_digits x n (λ k lt. zeros k (omega arith)))
  where
    up : Divides x n → Divides (suc x) n
    up (m, e) =
        let digit : m % 2 ≡ 0 = ap (λ (k : ℕ). k % 2) (sym (mul-div_cancel m {n = 2 ^ x} (one-le-pow x 2 (omega arith))) ∙ ap (λ (k : ℕ). k / 2 ^ x) (sym e)) ∙ zeros x (omega arith) in
        let half : m ≡ m / 2 * 2 = omega (arith, div-add-mod' m 2) in
        (m / 2, e ∙ ap (λ (k : ℕ). k * 2 ^ x) half ∙ sym (doubled (m / 2) x))

digit_clear : (x n : ℕ) → Divides (suc x) n → bit_at n x ≡ 0
digit_clear x n (m, e) =
    let f : n ≡ m * 2 * 2 ^ x = e ∙ doubled m x in
    ap (λ (k : ℕ). k / 2 ^ x % 2) f ∙ ap (λ (k : ℕ). k % 2) (mul-div_cancel (m * 2) {n = 2 ^ x} (one-le-pow x 2 (omega arith))) ∙ mul-mod_left m 2

pub farthest : (index before log place : ℕ) → before < index → index < 2 ^ 32 → 2 ^ log ≤ index - before → index - before < 2 * 2 ^ log → place ≡ min (min (trailing_zeros w32 index) log) (SLOTS - 1) → IsLargest place index before
farthest index before log place lt fits power next is =
    let zeros = bit_at-trailing_zeros w32 index (omega arith) fits in
    let all = divides_digits (trailing_zeros w32 index) index (λ k below. zeros.2 k below) in
    let lower : 2 ^ place ≤ 2 ^ log = pow_mono {i = place} {j = log} (omega arith) in
    (leads_on place index before (omega arith) (omega arith) (divides_le (trailing_zeros w32 index) place index (omega arith) all), λ y useful. largest y useful)
  where
    largest : (y : ℕ) → IsUseful y index before → y ≤ place
    largest y useful =
        let zeros = bit_at-trailing_zeros w32 index (omega arith) fits in
        let slot : y < SLOTS = useful.0.0 in
        let near : y ≤ log = below_by_pow log y (omega (arith, useful.1, pow-suc 2 log)) in
        elim (cases_lt (trailing_zeros w32 index) y) [
          | inl above ↦ let clear = digit_clear (trailing_zeros w32 index) index (divides_le y (suc (trailing_zeros w32 index)) index (omega arith) useful.0.2) in absurd (omega (arith, clear, zeros.1))
          | inr within ↦ omega arith
        ]
