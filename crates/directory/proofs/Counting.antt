-- How many numbers below a bound pass a test, beside a list that has them all.
use Rattle.std.proofs.Common.{◌≡◌, ◌≢◌, ◌⊎◌, ℕ, zero, suc, inl, inr, ◌+◌, ◌≤◌, ◌<◌, Bool, true, false, cond, ◌&&◌, ◌||◌, not, eqb, List, [], ◌∷◌, length, refl, sym, ap, subst, ◌∙◌, add-zero, arith}
use Rattle.std.specs.Prelude.{Contains}
use Rattle.std.proofs.lemmas.Bool.{true≢false, cases_eq, eq-eqb, ne_eqb}
use Rattle.std.specs.List.{filter}
use Rattle.std.specs.FinSet.{FinSet, contains}
use Rattle.std.specs.Ordering.{nat_cmp}
use Rattle.directory.specs.Depths.{count_below, is_loud, loud_of}

pub one_more : (p : ℕ → Bool) (n : ℕ) → count_below p (n + 1) ≡ count_below p n + cond (p n) 1 0
one_more p n = let next : n + 1 ≡ suc n = omega arith in ap (count_below p) next

pub one_here : (p : ℕ → Bool) (n : ℕ) → p n ≡ true → count_below p (n + 1) ≡ count_below p n + 1
one_here p n is = one_more p n ∙ ap (λ (t : Bool). count_below p n + cond t 1 0) is

pub count_none : (p : ℕ → Bool) (n : ℕ) → ((b : ℕ) → p b ≡ true → ⊥) → count_below p n ≡ 0
count_none p zero none = refl
count_none p (suc n) none = on (p n) refl (count_none p n none)
  where
    on : (t : Bool) → p n ≡ t → count_below p n ≡ 0 → count_below p n + cond t 1 0 ≡ 0
    on true is rest = absurd (none n is)
    on false is rest = omega arith

-- the test, but at one number
abbrev but : (ℕ → Bool) → ℕ → ℕ → Bool
but p x b = p b && not (eqb b x)

but_other : (p : ℕ → Bool) (x b : ℕ) → b ≢ x → but p x b ≡ p b
but_other p x b apart = on (eqb b x) (ne_eqb b x apart)
  where
    on : (t : Bool) → t ≡ false → (p b && not t) ≡ p b
    on true is = absurd (true≢false is)
    on false is = same (p b)
      where
        same : (t : Bool) → (t && true) ≡ t
        same true = refl
        same false = refl

count_same : (p : ℕ → Bool) (x n : ℕ) → n ≤ x → count_below (but p x) n ≡ count_below p n
count_same p x zero le = refl
count_same p x (suc n) le =
    let apart : n ≢ x = λ same. absurd (omega arith) in
    ap (λ (k : ℕ). k + cond (but p x n) 1 0) (count_same p x n (omega arith)) ∙ ap (λ (t : Bool). count_below p n + cond t 1 0) (but_other p x n apart)

at_most_one : (t : Bool) → cond t 1 0 ≤ 1
at_most_one true = omega arith
at_most_one false = omega arith

count_but : (p : ℕ → Bool) (x n : ℕ) → count_below p n ≤ count_below (but p x) n + 1
count_but p x zero = omega arith
count_but p x (suc n) = elim (cases_eq n x) [
  | inl same ↦ omega (arith, count_same p x n (omega arith), at_most_one (p n))
  | inr apart ↦
      let here : cond (but p x n) 1 0 ≡ cond (p n) 1 0 = ap {B = ℕ} (λ (t : Bool). cond t 1 0) (but_other p x n apart) in
      omega (arith, here, count_but p x n)
]

-- no more than there are in a list that has them all
pub count_few : (p : ℕ → Bool) (list : List ℕ) (n : ℕ) → ((b : ℕ) → p b ≡ true → Contains list b) → count_below p n ≤ length list
count_few p [] n within = let none = count_none p n (λ b here. let found = within b here in absurd (omega (arith, found.1))) in omega arith
count_few p (x ∷ list) n within = omega (arith, count_but p x n, count_few (but p x) list n rest)
  where
    parts : (s t : Bool) → (s && not t) ≡ true → (s ≡ true) × (t ≡ false)
    parts true true e = absurd cc
    parts true false e = (refl, refl)
    parts false t e = absurd cc

    tail : (b : ℕ) → Contains (x ∷ list) b → b ≢ x → Contains list b
    tail b (zero, lt, is) apart = absurd (apart (sym is))
    tail b (suc k, lt, is) apart = (k, omega (arith, lt), is)

    rest : (b : ℕ) → but p x b ≡ true → Contains list b
    rest b here =
        let both = parts (p b) (eqb b x) here in
        tail b (within b both.0) (λ same. true≢false (sym (eq-eqb b x same) ∙ both.1))

-- no more than there are numbers
pub count_most : (p : ℕ → Bool) (n : ℕ) → count_below p n ≤ n
count_most p zero = omega arith
count_most p (suc n) = omega (arith, count_most p n, at_most_one (p n))

-- what a number counts
abbrev bit : Bool → ℕ
bit t = cond t 1 0

-- one number passes that did not
pub count_put : (p q : ℕ → Bool) (x : ℕ) → ((b : ℕ) → q b ≡ (eqb b x || p b)) → p x ≡ false → (n : ℕ) → (n ≤ x → count_below q n ≡ count_below p n) × (x < n → count_below q n ≡ count_below p n + 1)
count_put p q x put was zero = (λ le. refl, λ less. absurd (omega arith))
count_put p q x put was (suc n) = on (cases_eq n x) (count_put p q x put was n)
  where
    other : n ≢ x → q n ≡ p n
    other apart = put n ∙ ap (λ (t : Bool). t || p n) (ne_eqb n x apart)

    on : (n ≡ x) ⊎ (n ≢ x) → (n ≤ x → count_below q n ≡ count_below p n) × (x < n → count_below q n ≡ count_below p n + 1)
        → (suc n ≤ x → count_below q (suc n) ≡ count_below p (suc n)) × (x < suc n → count_below q (suc n) ≡ count_below p (suc n) + 1)
    on (inl same) (before, past) =
        let here : q n ≡ true = put n ∙ ap (λ (t : Bool). t || p n) (eq-eqb n x same) in
        let none : p n ≡ false = ap p same ∙ was in
        let one : bit (q n) ≡ 1 = ap bit here in
        let zero_is : bit (p n) ≡ 0 = ap bit none in
        (λ le. absurd (omega (arith, same)), λ less. let b = before (omega (arith, same)) in omega (arith, b, one, zero_is))
    on (inr apart) (before, past) =
        let here : bit (q n) ≡ bit (p n) = ap bit (other apart) in
        (λ le. let b = before (omega arith) in omega (arith, b, here), λ less. let b = past (apart_less n x apart less) in omega (arith, b, here))
      where
        apart_less : (n x : ℕ) → n ≢ x → x < suc n → x < n
        apart_less n x apart less = grind arith

-- two tests that agree
pub count_ext : (p q : ℕ → Bool) → ((b : ℕ) → p b ≡ q b) → (n : ℕ) → count_below p n ≡ count_below q n
count_ext p q same zero = refl
count_ext p q same (suc n) = λ i. count_ext p q same n i + cond (same n i) 1 0

-- what passes one test passes another
pub count_le : (p q : ℕ → Bool) → ((b : ℕ) → p b ≡ true → q b ≡ true) → (n : ℕ) → count_below p n ≤ count_below q n
count_le p q more zero = omega arith
count_le p q more (suc n) = omega (arith, count_le p q more n, on (p n) (q n) (more n))
  where
    on : (s t : Bool) → (s ≡ true → t ≡ true) → cond s 1 0 ≤ cond t 1 0
    on false t more = omega arith
    on true t more = rw (more refl) (omega arith)

-- what passes a test is in the list of those that do
pub filter_has : (p : ℕ → Bool) (xs : List ℕ) (x : ℕ) → Contains xs x → p x ≡ true → Contains (filter p xs) x
filter_has p [] x h is = absurd (omega (arith, h.1))
filter_has p (y ∷ xs) x (zero, lt, same) is =
    let here : p y ≡ true = ap p same ∙ is in
    subst (λ (t : Bool). Contains (cond t (y ∷ filter p xs) (filter p xs)) x) (sym here) (0, omega arith, same)
filter_has p (y ∷ xs) x (suc k, lt, same) is = on (p y) (filter_has p xs x (k, omega (arith, lt), same) is)
  where
    on : (t : Bool) → Contains (filter p xs) x → Contains (cond t (y ∷ filter p xs) (filter p xs)) x
    on true (j, below, at) = (suc j, omega (arith, below), at)
    on false h = h

-- ---- of what was seen, what was not known

loud_parts : (s t : Bool) → (s && not t) ≡ true → (s ≡ true) × (not t ≡ true)
loud_parts true t e = (refl, e)
loud_parts false t e = absurd cc

pub loud_seen : (quiet seen : FinSet nat_cmp) (b : ℕ) → is_loud quiet seen b ≡ true → contains seen b ≡ true
loud_seen quiet seen b here = (loud_parts (contains seen b) (contains quiet b) here).0

pub loud_few : (quiet seen : FinSet nat_cmp) (list : List ℕ) (n : ℕ) → ((b : ℕ) → contains seen b ≡ true → Contains list b) → count_below (is_loud quiet seen) n ≤ length (loud_of quiet list)
loud_few quiet seen list n within = count_few (is_loud quiet seen) (loud_of quiet list) n in_list
  where
    in_list : (b : ℕ) → is_loud quiet seen b ≡ true → Contains (loud_of quiet list) b
    in_list b here = let both = loud_parts (contains seen b) (contains quiet b) here in filter_has (λ b. not (contains quiet b)) list b (within b both.0) both.1

pub loud_le : (quiet seen seen' : FinSet nat_cmp) → ((b : ℕ) → contains seen b ≡ true → contains seen' b ≡ true) → (n : ℕ) → count_below (is_loud quiet seen) n ≤ count_below (is_loud quiet seen') n
loud_le quiet seen seen' stays = count_le (is_loud quiet seen) (is_loud quiet seen') (λ b here. let both = loud_parts (contains seen b) (contains quiet b) here in ap (λ (t : Bool). t && not (contains quiet b)) (stays b both.0) ∙ both.1)

-- one block more was seen
pub loud_put : (quiet : FinSet nat_cmp) (p q : ℕ → Bool) (x : ℕ) → ((b : ℕ) → q b ≡ (eqb b x || p b)) → p x ≡ false → (n : ℕ) → x < n
    → count_below (λ b. q b && not (contains quiet b)) n ≡ count_below (λ b. p b && not (contains quiet b)) n + cond (contains quiet x) 0 1
loud_put quiet p q x put was n below = on (contains quiet x) refl
  where
    on : (t : Bool) → contains quiet x ≡ t → count_below (λ b. q b && not (contains quiet b)) n ≡ count_below (λ b. p b && not (contains quiet b)) n + cond t 0 1
    on true known = count_ext (λ b. q b && not (contains quiet b)) (λ b. p b && not (contains quiet b)) same n ∙ sym (add-zero (count_below (λ b. p b && not (contains quiet b)) n))
      where
        same : (b : ℕ) → (q b && not (contains quiet b)) ≡ (p b && not (contains quiet b))
        same b = elim (cases_eq b x) [
          | inl is ↦
              let silent : not (contains quiet b) ≡ false = ap (λ (k : ℕ). not (contains quiet k)) is ∙ ap not known in
              ap (λ (t : Bool). q b && t) silent ∙ none (q b) ∙ sym (ap (λ (t : Bool). p b && t) silent ∙ none (p b))
          | inr apart ↦ ap (λ (t : Bool). t && not (contains quiet b)) (put b ∙ ap (λ (t : Bool). t || p b) (ne_eqb b x apart))
        ]
          where
            none : (t : Bool) → (t && false) ≡ false
            none true = refl
            none false = refl
    on false unknown = (count_put (λ b. p b && not (contains quiet b)) (λ b. q b && not (contains quiet b)) x both (ap (λ (t : Bool). t && not (contains quiet x)) was) n).1 below
      where
        both : (b : ℕ) → (q b && not (contains quiet b)) ≡ (eqb b x || (p b && not (contains quiet b)))
        both b = elim (cases_eq b x) [
          | inl is ↦
              let here : eqb b x ≡ true = eq-eqb b x is in
              let heard : not (contains quiet b) ≡ true = ap (λ (k : ℕ). not (contains quiet k)) is ∙ ap not unknown in
              ap (λ (t : Bool). t && not (contains quiet b)) (put b ∙ ap (λ (t : Bool). t || p b) here) ∙ heard ∙ sym (ap (λ (t : Bool). t || (p b && not (contains quiet b))) here)
          | inr apart ↦
              let other : eqb b x ≡ false = ne_eqb b x apart in
              ap (λ (t : Bool). t && not (contains quiet b)) (put b ∙ ap (λ (t : Bool). t || p b) other) ∙ sym (ap (λ (t : Bool). t || (p b && not (contains quiet b))) other)
        ]
