-- An empty directory reaches only itself.
use Rattle.std.proofs.Common.{◌≡◌, ℕ, inl, inr, Bool, true, Option, Some, None, unwrap_or, List, [], ◌∷◌, ap, sym, subst, ◌∙◌}
use Rattle.fs_types.specs.Names.{Name}
use Rattle.node_format.specs.Items.{Item, named_place}
use Rattle.node_format.specs.declared.place.Place.{Place}
use Rattle.node_format.specs.declared.place.Place.TheVariants.{Dir}
use Rattle.nodes.specs.Bodies.{Blocks}
use Rattle.nodes.specs.Trees.{entries_in, child}
use Rattle.nodes.specs.Reached.{IsHeld, Reached}
use Rattle.nodes.proofs.Entries.{some_place}
use Rattle.nodes.proofs.ChainCounts.{empty_alone}
use Rattle.nodes.specs.ChainLaws.{IsReachedFrom}
use Rattle.nodes.proofs.Reaching.{reached_from}

module _ (f : Blocks) (block : ℕ) (empty : entries_in f block ≡ Some []) where
  none_there : (name : Name) (place : Place) → child f (Dir block) name ≡ Some place → ⊥
  none_there name place is = let e : None ≡ some_place place = sym (ap (λ (o : Option (List Item)). named_place (unwrap_or o []) name) empty) ∙ is in cc

  pub reaches_itself : (b : ℕ) → Reached f (block ∷ []) b → b ≡ block
  reaches_itself b reached = on (reached_from f block [] b empty reached)
    where
      on : IsReachedFrom f block b → b ≡ block
      on (inl inside) = empty_alone f block empty b inside
      on (inr (name, place, next, leads, names, below)) = absurd (none_there name place leads)

  pub empty_held : (kept : ℕ → Bool) → kept block ≡ true → IsHeld f kept (Dir block)
  empty_held kept is root names b reached = ap kept (reaches_itself b (subst (λ r. Reached f (r ∷ []) b) (sym names) reached)) ∙ is
