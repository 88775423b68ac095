-- A tree that is looked through, level by level.
use Rattle.std.proofs.Common.{◌≡◌, ℕ, suc, ◌+◌, List, ◌++◌, refl, sym, ap, ◌∙◌, arith}
use Rattle.std.specs.Prelude.{sum_by}
use Rattle.std.specs.List.{flat_map}
use Rattle.std.proofs.lemmas.List.{append_assoc}
use Rattle.nodes.specs.Bodies.{Blocks}
use Rattle.salvages.specs.Losses.{lost_in, ways_in, lost_under, lost_from, cost_in, cost_under, cost_from, Uncounted}
use Rattle.salvages.specs.declared.found.Way.{Way}
use Rattle.salvages.specs.declared.losses.Loss.{Loss}
use Rattle.salvages.specs.declared.losses.LossFault.{LossFault}
use Rattle.salvages.proofs.Adding.{uncounted_more}

module _ (capacity : ℕ) (f : Blocks) where
  level_lost : (n : ℕ) (ways : List Way) → lost_from (suc n) capacity f ways ≡ flat_map (lost_in capacity f) ways ++ lost_from n capacity f (flat_map (ways_in f) ways)
  unfolding lost_from
  level_lost n ways = refl

  level_cost : (n : ℕ) (ways : List Way) → cost_from (suc n) capacity f ways ≡ sum_by (cost_in capacity f) ways + cost_from n capacity f (flat_map (ways_in f) ways)
  unfolding cost_from
  level_cost n ways = refl

  -- one level less is left
  pub lost_level : (all before after : List Loss) (k n : ℕ) (ways next : List Way) → k ≡ suc n → before ++ lost_from k capacity f ways ≡ all
      → after ≡ before ++ flat_map (lost_in capacity f) ways → next ≡ flat_map (ways_in f) ways → after ++ lost_from n capacity f next ≡ all
  lost_level all before after k n ways next more is losses are =
      (λ i. losses i ++ lost_from n capacity f (are i)) ∙ append_assoc before (flat_map (lost_in capacity f) ways) (lost_from n capacity f (flat_map (ways_in f) ways))
      ∙ ap (λ (xs : List Loss). before ++ xs) (sym (level_lost n ways)) ∙ ap (λ (m : ℕ). before ++ lost_from m capacity f ways) (sym more) ∙ is

  pub cost_level : (all before after : ℕ) (k n : ℕ) (ways next : List Way) → k ≡ suc n → before + cost_from k capacity f ways ≡ all
      → after ≡ before + sum_by (cost_in capacity f) ways → next ≡ flat_map (ways_in f) ways → after + cost_from n capacity f next ≡ all
  cost_level all before after k n ways next more is cost are =
      let here : cost_from k capacity f ways ≡ sum_by (cost_in capacity f) ways + cost_from n capacity f (flat_map (ways_in f) ways) = ap (λ (m : ℕ). cost_from m capacity f ways) more ∙ level_cost n ways in
      let there : cost_from n capacity f next ≡ cost_from n capacity f (flat_map (ways_in f) ways) = ap (cost_from n capacity f) are in
      omega (arith, is, cost, here, there)

  pub much_level : (all before : ℕ) (k n : ℕ) (ways : List Way) (why : LossFault) → k ≡ suc n → before + cost_from k capacity f ways ≡ all → Uncounted (before + sum_by (cost_in capacity f) ways) why → Uncounted all why
  much_level all before k n ways why more is much =
      let here : cost_from k capacity f ways ≡ sum_by (cost_in capacity f) ways + cost_from n capacity f (flat_map (ways_in f) ways) = ap (λ (m : ℕ). cost_from m capacity f ways) more ∙ level_cost n ways in
      uncounted_more (before + sum_by (cost_in capacity f) ways) all why (omega (arith, is, here)) much

  -- the last level
  pub lost_end : (all before after : List Loss) (k : ℕ) (ways shown : List Way) → shown ≡ ways → k ≡ 0 → before ++ lost_from k capacity f ways ≡ all → after ≡ before ++ flat_map (lost_under f) shown → after ≡ all
  unfolding lost_from
  lost_end all before after k ways shown same last is losses = losses ∙ ap (λ (xs : List Way). before ++ flat_map (lost_under f) xs) same ∙ ap (λ (m : ℕ). before ++ lost_from m capacity f ways) (sym last) ∙ is

  pub much_end : (all before : ℕ) (k : ℕ) (ways shown : List Way) (why : LossFault) → shown ≡ ways → k ≡ 0 → before + cost_from k capacity f ways ≡ all → Uncounted (before + sum_by (cost_under f) shown) why → Uncounted all why
  unfolding cost_from
  much_end all before k ways shown why same last is much =
      let here : cost_from k capacity f ways ≡ sum_by (cost_under f) ways = ap (λ (m : ℕ). cost_from m capacity f ways) last in
      let own : sum_by (cost_under f) shown ≡ sum_by (cost_under f) ways = ap (sum_by (cost_under f)) same in
      uncounted_more (before + sum_by (cost_under f) shown) all why (omega (arith, is, here, own)) much
