-- Blocks that are taken out of a set, one after the other.
use Rattle.std.proofs.Common.{◌≡◌, ℕ, ◌+◌, ◌<◌, Bool, true, false, ◌&&◌, ltb, refl, sym, ap, ◌∙◌, inl, inr, arith}
use Rattle.std.proofs.lemmas.Bool.{eq-eqb, ne_eqb, lt-ltb, le-ltb, cases_order}
use Rattle.std.proofs.lemmas.Cmp.{nat_cmp_total}
use Rattle.std.specs.Cmp.{unsigned_tied}
use Rattle.std.specs.FinMap.{nat_cmp-IsAntisymmetric}
use Rattle.std.specs.FinSet as set
use Rattle.std.specs.Ordering.{nat_cmp}
use Rattle.std.specs.Prelude.{not}

-- a set, and what is left of it once those of another that are below n are taken out
abbrev pub IsWithoutBelow : set.FinSet nat_cmp → set.FinSet nat_cmp → ℕ → set.FinSet nat_cmp → Type 0
IsWithoutBelow s used n t = (b : ℕ) → set.contains t b ≡ (set.contains s b && not (ltb b n && set.contains used b))

and_not_none : (b : Bool) → b ≡ (b && not false)
and_not_none true = refl
and_not_none false = refl

and_false : (b : Bool) → false ≡ (b && false)
and_false true = refl
and_false false = refl

pub none_below : (s used : set.FinSet nat_cmp) → IsWithoutBelow s used 0 s
none_below s used b = and_not_none (set.contains s b) ∙ ap (λ x. set.contains s b && not (x && set.contains used b)) (sym (le-ltb b 0 (omega arith)))

-- one more place, of a block that is used
pub one_removed : (s used : set.FinSet nat_cmp) (n : ℕ) (t : set.FinSet nat_cmp) → set.contains used n ≡ true → IsWithoutBelow s used n t → IsWithoutBelow s used (n + 1) (set.remove t n)
one_removed s used n t is so_far b =
    set.contains-remove nat_cmp_total t n b ∙ elim (cases_order b n) [
      | inl same ↦
          ap (λ x. not x && set.contains t b) (unsigned_tied b n ∙ eq-eqb b n same)
          ∙ and_false (set.contains s b)
          ∙ ap (λ x. set.contains s b && not x) (sym (ap (λ x. x && set.contains used b) (lt-ltb b (n + 1) (omega arith)) ∙ ap (set.contains used) same ∙ is))
      | inr (inl less) ↦
          ap (λ x. not x && set.contains t b) (unsigned_tied b n ∙ ne_eqb b n (omega arith))
          ∙ so_far b
          ∙ ap (λ x. set.contains s b && not (x && set.contains used b)) (lt-ltb b n less ∙ sym (lt-ltb b (n + 1) (omega arith)))
      | inr (inr more) ↦
          ap (λ x. not x && set.contains t b) (unsigned_tied b n ∙ ne_eqb b n (omega arith))
          ∙ so_far b
          ∙ ap (λ x. set.contains s b && not (x && set.contains used b)) (le-ltb b n (omega arith) ∙ sym (le-ltb b (n + 1) (omega arith)))
    ]

-- and of one that is not
pub none_removed : (s used : set.FinSet nat_cmp) (n : ℕ) (t : set.FinSet nat_cmp) → set.contains used n ≡ false → IsWithoutBelow s used n t → IsWithoutBelow s used (n + 1) t
none_removed s used n t is so_far b =
    so_far b ∙ elim (cases_order b n) [
      | inl same ↦
          ap (λ x. set.contains s b && not x) (ap (λ x. x && set.contains used b) (le-ltb b n (omega arith)) ∙ sym (ap (λ x. x && set.contains used b) (lt-ltb b (n + 1) (omega arith)) ∙ ap (set.contains used) same ∙ is))
      | inr (inl less) ↦ ap (λ x. set.contains s b && not (x && set.contains used b)) (lt-ltb b n less ∙ sym (lt-ltb b (n + 1) (omega arith)))
      | inr (inr more) ↦ ap (λ x. set.contains s b && not (x && set.contains used b)) (le-ltb b n (omega arith) ∙ sym (le-ltb b (n + 1) (omega arith)))
    ]

-- all of them, where none is at n or past it
pub all_removed : (s used : set.FinSet nat_cmp) (n : ℕ) (t : set.FinSet nat_cmp) → ((b : ℕ) → set.contains used b ≡ true → b < n) → IsWithoutBelow s used n t → t ≡ set.difference s used
all_removed s used n t few so_far = set.same_set nat_cmp_total nat_cmp-IsAntisymmetric t (set.difference s used) (λ b. so_far b ∙ by b (set.contains used b) refl ∙ sym (set.contains-difference nat_cmp_total s used b))
  where
    by : (b : ℕ) (x : Bool) → set.contains used b ≡ x → (set.contains s b && not (ltb b n && set.contains used b)) ≡ (set.contains s b && not (set.contains used b))
    by b true is = ap (λ x. set.contains s b && not (x && set.contains used b)) (lt-ltb b n (few b is))
    by b false is = ap (λ x. set.contains s b && not x) (ap (λ x. ltb b n && x) is ∙ sym (and_false (ltb b n)) ∙ sym is)
