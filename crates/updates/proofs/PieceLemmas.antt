-- Calls that write pieces, one after the other.
use Rattle.std.proofs.Common.{◌≡◌, ◌∙◌, ◌+◌, ◌-◌, ◌≤◌, ℕ, List, [], ◌∷◌, ◌++◌, map, sym, ap, append_assoc, arith}
use Rattle.std.proofs.lemmas.List.FromFn.{map-range_with_len_more}
use Rattle.std.specs.List.{range_with_len}
use Rattle.fs_types.specs.declared.call.Call.{Call}

-- one call more, of those from a place on
pub one_more_from : (g : ℕ → Call) (from i : ℕ) (start loop new : List Call) → from ≤ i → loop ≡ start ++ map g (range_with_len from (i - from)) → new ≡ loop ++ g i ∷ []
    → new ≡ start ++ map g (range_with_len from (i + 1 - from))
one_more_from g from i start loop new low is more =
    more ∙ ap (λ (x : List Call). x ++ g i ∷ []) is ∙ append_assoc start (map g (range_with_len from (i - from))) (g i ∷ [])
    ∙ ap (λ (x : List Call). start ++ x) (sym (map-range_with_len_more g from (i - from) i (omega (arith, low))) ∙ ap (λ (n : ℕ). map g (range_with_len from n)) (let e : i - from + 1 ≡ i + 1 - from = omega (arith, low) in e))

-- one call more, of all
pub one_more : (g : ℕ → Call) (i : ℕ) (start loop new : List Call) → loop ≡ start ++ map g (range_with_len 0 i) → new ≡ loop ++ g i ∷ [] → new ≡ start ++ map g (range_with_len 0 (i + 1))
one_more g i start loop new is more =
    more ∙ ap (λ (x : List Call). x ++ g i ∷ []) is ∙ append_assoc start (map g (range_with_len 0 i)) (g i ∷ [])
    ∙ ap (λ (x : List Call). start ++ x) (sym (map-range_with_len_more g 0 i i (omega arith)))

-- a first call, others, and a last one
pub calls_between : (first last : Call) (calls old begun loop new : List Call) → begun ≡ old ++ first ∷ [] → loop ≡ begun ++ calls → new ≡ loop ++ last ∷ [] → new ≡ old ++ first ∷ (calls ++ last ∷ [])
calls_between first last calls old begun loop new is is' more =
    more ∙ ap (λ (x : List Call). x ++ last ∷ []) (is' ∙ ap (λ (x : List Call). x ++ calls) is) ∙ append_assoc (old ++ first ∷ []) calls (last ∷ []) ∙ append_assoc old (first ∷ []) (calls ++ last ∷ [])
