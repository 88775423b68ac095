-- Nodes that follow one another by a table.
use Rattle.std.proofs.Common.{◌≡◌, ◌≢◌, ℕ, zero, suc, ◌+◌, ◌-◌, ◌<◌, ◌≤◌, Bool, true, false, cond, eqb, refl, sym, ap, ◌∙◌, arith}
use Rattle.std.specs.Prelude.{◌&&◌}
use Rattle.std.proofs.lemmas.Bool.{eq-eqb}
use Rattle.nodes.specs.Chains.{most_after}
use Rattle.reclaim.specs.Tables.{ends_from}

-- so many nodes are left at node i of them all
one_left : (i : ℕ) → 1 ≤ i → i < suc most_after → suc most_after - i ≡ suc (suc most_after - (i + 1))
one_left i past below = omega arith

ends_here : (n : ℕ) (has : ℕ → Bool) (next : ℕ → ℕ) (at : ℕ) → at ≡ 0 → ends_from n has next at ≡ true
ends_here zero has next at none = eq-eqb at 0 none
ends_here (suc n) has next at none = let is : eqb at 0 ≡ true = eq-eqb at 0 none in rw is refl

one_more : (n : ℕ) (has : ℕ → Bool) (next : ℕ → ℕ) (at : ℕ) (held : Bool) → at ≢ 0 → has at ≡ held → ends_from (suc n) has next at ≡ cond held (ends_from n has next (next at)) false
one_more n has next at held some is = let differs : eqb at 0 ≡ false = grind arith in rw (differs, is) (on held)
  where
    on : (t : Bool) → (t && ends_from n has next (next at)) ≡ cond t (ends_from n has next (next at)) false
    on true = refl
    on false = refl

module _ (has : ℕ → Bool) (next : ℕ → ℕ) (first at i : ℕ) (so_far : ends_from (suc most_after - i) has next at ≡ ends_from most_after has next first) where
  pub ends_on : (after : ℕ) → 1 ≤ i → i < suc most_after → at ≢ 0 → has at ≡ true → after ≡ next at → ends_from (suc most_after - (i + 1)) has next after ≡ ends_from most_after has next first
  ends_on after past below some held is =
      ap (ends_from (suc most_after - (i + 1)) has next) is ∙ sym (ap (λ (n : ℕ). ends_from n has next at) (one_left i past below) ∙ one_more (suc most_after - (i + 1)) has next at true some held) ∙ so_far

  pub ends_nowhere : 1 ≤ i → i < suc most_after → at ≢ 0 → has at ≡ false → false ≡ ends_from most_after has next first
  ends_nowhere past below some held =
      sym (ap (λ (n : ℕ). ends_from n has next at) (one_left i past below) ∙ one_more (suc most_after - (i + 1)) has next at false some held) ∙ so_far

  pub ends_now : at ≡ 0 → true ≡ ends_from most_after has next first
  ends_now none = sym (ends_here (suc most_after - i) has next at none) ∙ so_far

  pub ends_last : suc most_after ≤ i → eqb at 0 ≡ ends_from most_after has next first
  ends_last past = let none : suc most_after - i ≡ 0 = omega arith in sym (ap (λ (n : ℕ). ends_from n has next at) none) ∙ so_far
