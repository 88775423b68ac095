-- What listing a block first, and taking it out again, leave of a cache.
use Rattle.std.specs.Prelude.{◌≡◌, ◌≢◌, ℕ, zero, suc, ◌<◌, is_some, nat_eq, Bool, true, List, [], ◌∷◌, take, drop, slice_get, Option, Some, None, refl}
use Rattle.std.specs.Cmp.{nat_eq_equiv}
use Rattle.std.specs.List.{IsDistinct}
use Rattle.std.specs.Map.{keys_of, lookup, remove_entry}
use Rattle.std.proofs.Common.{sym, ◌∙◌, ap, inl, inr, arith}
use Rattle.std.proofs.lemmas.Bool.{cases_Bool, cond-true, cond-false, ne_eqb, eq-eqb, eqb-true, true≢false}
use Rattle.std.proofs.lemmas.Map.{lookup-remove_entry}
use Rattle.node_store.specs.NodeCache.{NodeCache, node_in, with_first, without, with_blocks, first_bytes, IsBounded}

module _ {X : Type 0} where
  -- what is among the first entries is among all
  pub among_first : (b n : ℕ) (es : List (ℕ × X)) (x : X) → lookup (nat_eq b) (take n es) ≡ Some x → lookup (nat_eq b) es ≡ Some x
  among_first b zero es x h = cc
  among_first b (suc n) [] x h = h
  among_first b (suc n) (e ∷ es) x h =
      elim (cases_Bool (nat_eq b e.0)) [
        | inl is ↦ cond-true _ _ _ is ∙ sym (cond-true _ _ _ is) ∙ h
        | inr is_not ↦ cond-false _ _ _ is_not ∙ among_first b n es x (sym (cond-false _ _ _ is_not) ∙ h)
      ]

-- what is found once block b is taken out was there, and of another block
others_stay : (b c : ℕ) (es : List (ℕ × List ℕ)) (x : List ℕ) → IsDistinct nat_eq (keys_of es) → lookup (nat_eq c) (remove_entry (nat_eq b) es) ≡ Some x
    → (c ≢ b) × (lookup (nat_eq c) es ≡ Some x)
others_stay b c es x once h =
    let is = lookup-remove_entry nat_eq_equiv (nat_eq b) (λ x y. nat_eq_equiv.congr b x y) c es once in
    elim (cases_Bool (nat_eq b c)) [
      | inl same ↦ let none : lookup (nat_eq c) (remove_entry (nat_eq b) es) ≡ None = is ∙ cond-true _ _ _ same in absurd (true≢false (ap is_some (sym h ∙ none)))
      | inr apart ↦ (λ same. true≢false (sym (eq-eqb b c (sym same)) ∙ apart), sym (cond-false _ _ _ apart) ∙ sym is ∙ h)
    ]

-- what is found once a block is taken out was found before
pub found_without : (cache : NodeCache) (b c : ℕ) (x : List ℕ) → IsBounded cache → node_in (without cache b) c ≡ Some x → node_in cache c ≡ Some x
found_without cache b c x bounded is = (others_stay b c cache.entries x bounded.once is).1

module _ (cache : NodeCache) (bounded : IsBounded cache) (b : ℕ) (bytes : List ℕ) where
  abbrev rest : List (ℕ × List ℕ)
  rest = remove_entry (nat_eq b) cache.entries

  first_in : (n : ℕ) → 0 < n → lookup (nat_eq b) (take n ((b, bytes) ∷ rest)) ≡ Some bytes
  first_in zero some = absurd (omega arith)
  first_in (suc n) some = cond-true _ _ _ (eq-eqb b b refl)

  -- the block that goes first is found with its bytes
  pub first_here : node_in (with_first cache b bytes) b ≡ Some bytes
  first_here = first_in cache.room bounded.some

  first_bytes_in : (n : ℕ) → 0 < n → first_bytes (take n ((b, bytes) ∷ rest)) ≡ bytes
  first_bytes_in zero some = absurd (omega arith)
  first_bytes_in (suc n) some = refl

  -- its bytes are the first ones
  pub first_shown : first_bytes (with_first cache b bytes).entries ≡ bytes
  first_shown = first_bytes_in cache.room bounded.some

  first_entry_in : (n : ℕ) → 0 < n → slice_get (take n ((b, bytes) ∷ rest)) 0 ≡ Some (b, bytes)
  first_entry_in zero some = absurd (omega arith)
  first_entry_in (suc n) some = refl

  -- it is the first entry
  pub first_entry : slice_get (with_first cache b bytes).entries 0 ≡ Some (b, bytes)
  first_entry = first_entry_in cache.room bounded.some

  -- of another block is found what was found
  pub first_apart : (c : ℕ) (x : List ℕ) → c ≢ b → node_in (with_first cache b bytes) c ≡ Some x → node_in cache c ≡ Some x
  first_apart c x apart h =
      let all : lookup (nat_eq c) ((b, bytes) ∷ rest) ≡ Some x = among_first c cache.room ((b, bytes) ∷ rest) x h in
      (others_stay b c cache.entries x bounded.once (sym (cond-false _ _ _ (ne_eqb c b apart)) ∙ all)).1

  behind : (n c : ℕ) (x : List ℕ) → lookup (nat_eq c) (drop 1 (take n ((b, bytes) ∷ rest))) ≡ Some x → (c ≢ b) × (node_in cache c ≡ Some x)
  behind zero c x h = cc
  behind (suc n) c x h = others_stay b c cache.entries x bounded.once (among_first c n rest x h)

  -- what is found once it is taken out again was found before, and is of another block
  pub taken_out : (c : ℕ) (x : List ℕ) → lookup (nat_eq c) (drop 1 (with_first cache b bytes).entries) ≡ Some x → (c ≢ b) × (node_in cache c ≡ Some x)
  taken_out c x = behind cache.room c x

  none_behind : (o : Option (List ℕ)) → node_in (record cache { entries = drop 1 (with_first cache b bytes).entries }) b ≡ o → o ≡ None
  none_behind None is = refl
  none_behind (Some x) is = absurd ((taken_out b x is).0 refl)

  -- it is not listed any more then
  pub taken_none : node_in (record cache { entries = drop 1 (with_first cache b bytes).entries }) b ≡ None
  taken_none = none_behind _ refl

  none_by : (c : ℕ) (after : NodeCache) → ((x : List ℕ) → node_in after c ≡ Some x → node_in cache c ≡ Some x) → node_in cache c ≡ None
      → (o : Option (List ℕ)) → node_in after c ≡ o → o ≡ None
  none_by c after from none None is = refl
  none_by c after from none (Some x) is = absurd (true≢false (ap is_some (sym (from x is) ∙ none)))

  -- what was not listed is not listed beside it, nor when it is taken out
  pub still_none : (c : ℕ) → c ≢ b → node_in cache c ≡ None → node_in (with_first cache b bytes) c ≡ None
  still_none c apart none = none_by c (with_first cache b bytes) (λ x is. first_apart c x apart is) none _ refl

  pub out_none : (c : ℕ) → node_in cache c ≡ None → node_in (record cache { entries = drop 1 (with_first cache b bytes).entries }) c ≡ None
  out_none c none = none_by c (record cache { entries = drop 1 (with_first cache b bytes).entries }) (λ x is. (taken_out c x is).1) none _ refl

-- what is found among the entries of some blocks is found among all, and is of one of them
pub found_with : (these : ℕ → Bool) (b : ℕ) (es : List (ℕ × List ℕ)) (x : List ℕ) → lookup (nat_eq b) (with_blocks these es) ≡ Some x
    → (these b ≡ true) × (lookup (nat_eq b) es ≡ Some x)
found_with these b [] x h = cc
found_with these b (e ∷ es) x h = elim (cases_Bool (these e.0)) [
  | inl is ↦
      let here : lookup (nat_eq b) (e ∷ with_blocks these es) ≡ Some x = sym (ap (lookup (nat_eq b)) (cond-true _ _ _ is)) ∙ h in
      elim (cases_Bool (nat_eq b e.0)) [
        | inl same ↦ (ap these (eqb-true b e.0 same) ∙ is, cond-true _ _ _ same ∙ sym (cond-true _ _ _ same) ∙ here)
        | inr apart ↦ let rest = found_with these b es x (sym (cond-false _ _ _ apart) ∙ here) in (rest.0, cond-false _ _ _ apart ∙ rest.1)
      ]
  | inr is_not ↦
      let rest = found_with these b es x (sym (ap (lookup (nat_eq b)) (cond-false _ _ _ is_not)) ∙ h) in
      (rest.0, cond-false _ _ _ (ne_eqb b e.0 (λ same. true≢false (sym rest.0 ∙ ap these same ∙ is_not))) ∙ rest.1)
]
