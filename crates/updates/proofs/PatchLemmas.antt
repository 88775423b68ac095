-- The last place at which two files differ, place by place.
use Rattle.std.proofs.Common.{◌≡◌, ◌≢◌, ◌∙◌, ◌+◌, ◌<◌, ℕ, zero, suc, Bool, true, false, cond, List, [], ◌∷◌, ◌++◌, length, take, get_or, refl, sym, ap, ap₂, arith}
use Rattle.std.proofs.lemmas.Bool.{eq-eqb, ne_eqb}
use Rattle.std.proofs.lemmas.List.{take_more, length-take-le}
use Rattle.std.specs.Prelude.{◌==◌}
use Rattle.tree_differences.specs.Updates.{changed_end, end_before}

-- one byte more of each
end_more : (xs ys : List ℕ) (x y : ℕ) → length xs ≡ length ys → changed_end (xs ++ x ∷ []) (ys ++ y ∷ []) ≡ cond (x == y) (changed_end xs ys) (suc (length xs))
end_more [] [] x y same = go (x == y)
  where
    go : (b : Bool) → end_before b 0 ≡ cond b 0 1
    go true = refl
    go false = refl
end_more [] (b ∷ ys) x y same = absurd (omega (arith, same))
end_more (a ∷ xs) [] x y same = absurd (omega (arith, same))
end_more (a ∷ xs) (b ∷ ys) x y same = ap (end_before (a == b)) (end_more xs ys x y (omega (arith, same))) ∙ go (a == b) (x == y)
  where
    go : (e f : Bool) → end_before e (cond f (changed_end xs ys) (suc (length xs))) ≡ cond f (end_before e (changed_end xs ys)) (suc (suc (length xs)))
    go e true = refl
    go true false = refl
    go false false = refl

module _ (xs ys : List ℕ) (i : ℕ) (same : length xs ≡ length ys) (below : i < length xs) where
  abbrev x : ℕ
  x = get_or xs i 0

  abbrev y : ℕ
  y = get_or ys i 0

  taken : changed_end (take (i + 1) xs) (take (i + 1) ys) ≡ cond (x == y) (changed_end (take i xs) (take i ys)) (suc (length (take i xs)))
  taken =
      let size : length (take i xs) ≡ length (take i ys) = length-take-le i xs (omega (arith, below)) ∙ sym (length-take-le i ys (omega (arith, same, below))) in
      ap₂ changed_end (take_more xs i 0 below) (take_more ys i 0 (omega (arith, same, below))) ∙ end_more (take i xs) (take i ys) x y size

  pub same_more : x ≡ y → changed_end (take (i + 1) xs) (take (i + 1) ys) ≡ changed_end (take i xs) (take i ys)
  same_more is = taken ∙ ap (λ (b : Bool). cond b (changed_end (take i xs) (take i ys)) (suc (length (take i xs)))) (eq-eqb x y is)

  pub other_more : x ≢ y → changed_end (take (i + 1) xs) (take (i + 1) ys) ≡ i + 1
  other_more differs =
      let l = length-take-le i xs (omega (arith, below)) in
      taken ∙ ap (λ (b : Bool). cond b (changed_end (take i xs) (take i ys)) (suc (length (take i xs)))) (ne_eqb x y differs) ∙ (let e : suc (length (take i xs)) ≡ i + 1 = omega (arith, l) in e)
