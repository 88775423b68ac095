-- How the number of free blocks changes.
use Rattle.std.specs.Prelude.{◌≡◌, ◌≢◌, ℕ, zero, suc, ◌+◌, ◌-◌, ◌<◌, ◌≤◌, Bool, true, false, not, cond, ◌||◌, count_by, refl}
use Rattle.std.proofs.Common.{eqb, sym, ap, ◌∙◌, inl, inr, arith}
use Rattle.std.proofs.lemmas.Bool.{cases_order, eq-eqb, ne_eqb}
use Rattle.std.proofs.lemmas.Cmp.{nat_cmp_total}
use Rattle.std.proofs.lemmas.List.Sums.{sum_by-cons}
use Rattle.std.specs.Cmp.{unsigned_tied}
use Rattle.std.specs.FinSet as set
use Rattle.std.specs.List.{range_with_len}
use Rattle.std.specs.Ordering.{nat_cmp}
use Rattle.fs_types.specs.declared.limits.TheConstants.{ANCHORS}
use Rattle.block_ring.specs.Ring.{Ring, IsDataBlock, is_busy, free_count}

abbrev one_if : Bool → ℕ
one_if b = cond b 1 0

-- two tests that agree from a on count alike
count_alike : (p q : ℕ → Bool) (a n : ℕ) → ((c : ℕ) → a ≤ c → c < a + n → p c ≡ q c)
    → count_by p (range_with_len a n) ≡ count_by q (range_with_len a n)
count_alike p q a zero alike = refl
count_alike p q a (suc n) alike =
    let rest = count_alike p q (a + 1) n (λ c low high. alike c (omega arith) (omega arith)) in
    sum_by-cons (λ c. one_if (p c)) a (range_with_len (a + 1) n) ∙ ap (λ k. one_if (p a) + k) rest
    ∙ ap (λ b. one_if b + count_by q (range_with_len (a + 1) n)) (alike a (omega arith) (omega arith))
    ∙ sym (sum_by-cons (λ c. one_if (q c)) a (range_with_len (a + 1) n))

-- a test that fails at one more place counts one less
pub count_less : (p q : ℕ → Bool) (a n b : ℕ) → a ≤ b → b < a + n → p b ≡ true → q b ≡ false
    → ((c : ℕ) → c ≢ b → p c ≡ q c) → count_by q (range_with_len a n) + 1 ≡ count_by p (range_with_len a n)
count_less p q a zero b low high passes fails others = absurd (omega arith)
count_less p q a (suc n) b low high passes fails others =
    elim (cases_order a b) [
      | inl here ↦
          let rest = count_alike p q (a + 1) n (λ c after _. others c (omega arith)) in
          let head_p : one_if (p a) ≡ 1 = ap (λ k. one_if (p k)) here ∙ ap one_if passes in
          let head_q : one_if (q a) ≡ 0 = ap (λ k. one_if (q k)) here ∙ ap one_if fails in
          omega (arith, sum_by-cons (λ c. one_if (p c)) a (range_with_len (a + 1) n), sum_by-cons (λ c. one_if (q c)) a (range_with_len (a + 1) n))
      | inr (inl before) ↦
          let rest = count_less p q (a + 1) n b (omega arith) (omega arith) passes fails others in
          let head : one_if (p a) ≡ one_if (q a) = ap one_if (others a (omega arith)) in
          omega (arith, sum_by-cons (λ c. one_if (p c)) a (range_with_len (a + 1) n), sum_by-cons (λ c. one_if (q c)) a (range_with_len (a + 1) n))
      | inr (inr after) ↦ absurd (omega arith)
    ]

busy_anyway : (used new bad : Bool) → used ≡ true → (used || (new || bad)) ≡ (used || bad)
busy_anyway used new bad is_used = ap (λ t. t || (new || bad)) is_used ∙ sym (ap (λ t. t || bad) is_used)

-- where each data block is busy now if it was before, as many are free
pub free_count-alike : (r s : Ring) (bad bad' : set.FinSet nat_cmp) → r.blocks ≡ s.blocks
    → ((b : ℕ) → IsDataBlock r.blocks b → is_busy r bad b ≡ is_busy s bad' b) → free_count r bad ≡ free_count s bad'
free_count-alike r s bad bad' same alike =
    count_alike (λ b. not (is_busy r bad b)) (λ b. not (is_busy s bad' b)) ANCHORS (r.blocks - ANCHORS)
    (λ c low high. ap not (alike c (low, omega arith)))
    ∙ ap (λ n. count_by (λ b. not (is_busy s bad' b)) (range_with_len ANCHORS (n - ANCHORS))) same

-- where one more data block is used, one less is free
pub free_count-less : (r s : Ring) (bad : set.FinSet nat_cmp) (b : ℕ) → s.blocks ≡ r.blocks → s.used ≡ set.insert r.used b
    → IsDataBlock r.blocks b → is_busy r bad b ≡ false → free_count s bad + 1 ≡ free_count r bad
free_count-less r s bad b same more at free =
    let now_used : (c : ℕ) → set.contains s.used c ≡ (eqb c b || set.contains r.used c) =
    λ c. ap (λ u. set.contains u c) more ∙ set.contains-insert nat_cmp_total r.used b c ∙ ap (λ t. t || set.contains r.used c) (unsigned_tied c b) in
    ap (λ n. count_by (λ c. not (is_busy s bad c)) (range_with_len ANCHORS (n - ANCHORS)) + 1) same
    ∙ count_less (λ c. not (is_busy r bad c)) (λ c. not (is_busy s bad c)) ANCHORS (r.blocks - ANCHORS) b at.0 (omega arith)
    (ap not free)
    (ap (λ t. not (t || set.contains bad b)) (now_used b ∙ ap (λ t. t || set.contains r.used b) (eq-eqb b b refl)))
    (λ c other. ap (λ t. not (t || set.contains bad c)) (sym (now_used c ∙ ap (λ t. t || set.contains r.used c) (ne_eqb c b other))))

-- a used block that becomes bad was not free, so as many are free
pub free_count-bad : (r : Ring) (bad : set.FinSet nat_cmp) (b : ℕ) → set.contains r.used b ≡ true
    → free_count r (set.insert bad b) ≡ free_count r bad
free_count-bad r bad b is_used =
    free_count-alike r r (set.insert bad b) bad refl (λ c _.
    ap (λ t. set.contains r.used c || t) (set.contains-insert nat_cmp_total bad b c) ∙ elim (cases_order c b) [
      | inl same ↦ busy_anyway _ _ _ (ap (set.contains r.used) same ∙ is_used)
      | inr (inl less) ↦ ap (λ t. set.contains r.used c || (t || set.contains bad c)) (unsigned_tied c b ∙ ne_eqb c b (omega arith))
      | inr (inr more) ↦ ap (λ t. set.contains r.used c || (t || set.contains bad c)) (unsigned_tied c b ∙ ne_eqb c b (omega arith))
    ])

pub ruleset free_counts = (free_count-alike, free_count-less, free_count-bad)
