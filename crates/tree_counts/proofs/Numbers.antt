-- Numbers given to blocks, one after the other.
use Rattle.std.proofs.Common.{◌≡◌, ◌≢◌, ◌⊎◌, inl, inr, ℕ, ◌<◌, ◌+◌, List, [], ◌∷◌, ◌++◌, length, take, set, get_or, get_or-set_same, get_or-set_other, sym, ap, subst, ◌∙◌, arith}
use Rattle.std.proofs.lemmas.Bool.{cases_order}
use Rattle.std.proofs.lemmas.List.{take_more}
use Rattle.std.proofs.lemmas.List.Elements.{Contains-push, Contains-push_cases, Contains-append_left}
use Rattle.std.specs.Prelude.{slice_index, Contains}

-- one block more has the number
module _ (blocks old now : List ℕ) (number i : ℕ) (below : i < length blocks) (inside : slice_index blocks i < length now)
    (given : (b : ℕ) → Contains (take i blocks) b → slice_index now b ≡ number) (others : (b : ℕ) → (Contains (take i blocks) b → ⊥) → slice_index now b ≡ slice_index old b) where
  more : take (i + 1) blocks ≡ take i blocks ++ slice_index blocks i ∷ []
  more = take_more blocks i 0 below

  same : (b : ℕ) → b ≡ slice_index blocks i → slice_index (set now (slice_index blocks i) number) b ≡ number
  same b is = ap (λ (k : ℕ). get_or (set now (slice_index blocks i) number) k 0) is ∙ get_or-set_same now (slice_index blocks i) number 0 inside

  other : (b : ℕ) → b ≢ slice_index blocks i → slice_index (set now (slice_index blocks i) number) b ≡ slice_index now b
  other b apart = get_or-set_other now (slice_index blocks i) b number 0 apart

  pub given_more : (b : ℕ) → Contains (take (i + 1) blocks) b → slice_index (set now (slice_index blocks i) number) b ≡ number
  given_more b has = by (Contains-push_cases (take i blocks) (slice_index blocks i) b (subst (λ (l : List ℕ). Contains l b) more has))
    where
      by : Contains (take i blocks) b ⊎ (slice_index blocks i ≡ b) → slice_index (set now (slice_index blocks i) number) b ≡ number
      by (inr is) = same b (sym is)
      by (inl before) = elim (cases_order b (slice_index blocks i)) [
        | inl is ↦ same b is
        | inr (inl less) ↦ other b (λ is. absurd (omega (arith, is))) ∙ given b before
        | inr (inr past) ↦ other b (λ is. absurd (omega (arith, is))) ∙ given b before
      ]

  pub others_more : (b : ℕ) → (Contains (take (i + 1) blocks) b → ⊥) → slice_index (set now (slice_index blocks i) number) b ≡ slice_index old b
  others_more b none =
      other b (λ is. none (subst (λ (l : List ℕ). Contains l b) (sym more) (subst (Contains (take i blocks ++ slice_index blocks i ∷ [])) (sym is) (Contains-push (take i blocks) (slice_index blocks i)))))
      ∙ others b (λ before. none (subst (λ (l : List ℕ). Contains l b) (sym more) (Contains-append_left (take i blocks) (slice_index blocks i ∷ []) b before)))
