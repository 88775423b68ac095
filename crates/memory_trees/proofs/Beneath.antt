-- What is left of a path after a beginning of it.
use Rattle.std.proofs.Common.{◌≡◌, ◌+◌, ◌≤◌, Bool, true, false, ◌&&◌, cond, length, [], ◌∷◌, ◌++◌, refl, sym, ◌∙◌, ap, arith, length-append}
use Rattle.std.specs.Prelude.{nat_lt, Some, None, unwrap_or}
use Rattle.std.specs.Option.{option_map_or}
use Rattle.std.specs.List.{list_all}
use Rattle.std.proofs.lemmas.Bool.{le-leb, ltb-false}
use Rattle.fs_types.specs.Names.{Name, Path, same_name, is_name, is_path}
use Rattle.plain_trees.specs.Contents.{beneath}
use Rattle.memory_trees.specs.Paths.{is_deep}

both : (a b : Bool) → a && b ≡ true → (a ≡ true) × (b ≡ true)
both true b e = (refl, e)
both false b e = cc

joins : (a b : Bool) → a ≡ true → b ≡ true → a && b ≡ true
joins true b e f = f
joins false b e f = cc

-- names after a beginning are some of the names
rest_passes : (test : Name → Bool) (old p rest : Path) → beneath old p ≡ Some rest → list_all test p ≡ true → list_all test rest ≡ true
rest_passes test [] p rest e h = let same : p ≡ rest = ap (λ o. unwrap_or o rest) e in rw (← same) h
rest_passes test (n ∷ old) [] rest e h = cc
rest_passes test (n ∷ old) (m ∷ p) rest e h =
    elim (same_name n m) as (λ b. cond b (beneath old p) None ≡ Some rest → list_all test rest ≡ true) [
      | true ↦ λ f. rest_passes test old p rest f (both _ _ h).1
      | false ↦ λ f. cc
    ] e

all_joined : (test : Name → Bool) (p q : Path) → list_all test p ≡ true → list_all test q ≡ true → list_all test (p ++ q) ≡ true
all_joined test [] q h k = k
all_joined test (n ∷ p) q h k = joins _ _ (both _ _ h).0 (all_joined test p q (both _ _ h).1 k)

-- a path that is not too deep stays one at its new place
pub joined_path : (old new p rest : Path) → beneath old p ≡ Some rest → is_path new ≡ true → is_path p ≡ true → is_deep old (length new) p ≡ false → is_path (new ++ rest) ≡ true
joined_path old new p rest is lawful kept shallow =
    let few : nat_lt 16 (length new + length rest) ≡ false = ap (λ o. option_map_or (λ (r : Path). nat_lt 16 (length new + length r)) o false) (sym is) ∙ shallow in
    let bound : length new + length rest ≤ 16 = ltb-false 16 (length new + length rest) few in
    joins _ _ (all_joined is_name new rest (both _ _ lawful).0 (rest_passes is_name old p rest is (both _ _ kept).0))
    (le-leb _ _ (omega (arith, length-append new rest)))
