-- Usages of places, one after the other.
use Rattle.std.proofs.Common.{◌≡◌, ℕ, ◌+◌, ◌<◌, List, [], ◌∷◌, ◌++◌, length, take, get_or, sym, ap, subst, ◌∙◌}
use Rattle.std.proofs.lemmas.List.{take_more}
use Rattle.std.specs.FinSet as set
use Rattle.std.specs.Ordering.{nat_cmp}
use Rattle.fs_types.specs.Names.{Path}
use Rattle.node_format.specs.declared.place.Place.{Place}
use Rattle.nodes.specs.Bodies.{Blocks}
use Rattle.block_usage.specs.Usages.{AreUsages, IsUsageOf}
use Rattle.block_usage.specs.declared.usage_list.EntryUsage.{EntryUsage}

module _ (f : Blocks) (apart : set.FinSet nat_cmp) where
  -- one place more
  pub usages_push : (places : List (Path × Place)) (found : List EntryUsage) (at : Path × Place) (entry : EntryUsage) → AreUsages f apart places found → entry.path ≡ at.0 → IsUsageOf f apart at.1 entry.usage
      → AreUsages f apart (places ++ at ∷ []) (found ++ entry ∷ [])
  usages_push [] [] at entry are path is = (path, is, tt)
  usages_push [] (one ∷ found) at entry are path is = absurd are
  usages_push (one ∷ places) [] at entry are path is = absurd are
  usages_push (one ∷ places) (other ∷ found) at entry are path is = (are.0, are.1, usages_push places found at entry are.2 path is)

  -- the same of the next place of a list
  pub usages_more : (places : List (Path × Place)) (i : ℕ) (found new : List EntryUsage) (at : Path × Place) (entry : EntryUsage) → i < length places → at ≡ get_or places i at → new ≡ found ++ entry ∷ []
      → AreUsages f apart (take i places) found → entry.path ≡ at.0 → IsUsageOf f apart at.1 entry.usage → AreUsages f apart (take (i + 1) places) new
  usages_more places i found new at entry within here pushed are path is =
      subst (λ (l : List EntryUsage). AreUsages f apart (take (i + 1) places) l) (sym pushed)
      (subst (λ (l : List (Path × Place)). AreUsages f apart l (found ++ entry ∷ [])) (ap (λ (x : Path × Place). take i places ++ x ∷ []) here ∙ sym (take_more places i at within))
      (usages_push (take i places) found at entry are path is))
