-- Paths that would get too long at another place.
use Rattle.std.proofs.Common.{◌≡◌, ℕ, ◌+◌, ◌-◌, ◌≤◌, Bool, true, false, ◌||◌, Option, Some, None, List, [], ◌∷◌, ◌++◌, length, refl, sym, ap, subst, ◌∙◌, arith}
use Rattle.std.specs.Prelude.{nat_lt, IsSome}
use Rattle.std.specs.Option.{option_map, option_map_or}
use Rattle.std.specs.List.{list_any}
use Rattle.std.specs.Ordering.{eq_by_cmp}
use Rattle.std.specs.FinMap.{get, keys, contains_key-keys}
use Rattle.std.proofs.lemmas.Bool.{le-ltb}
use Rattle.fs_types.specs.Names.{Path, path_cmp}
use Rattle.plain_trees.specs.Contents.{Entry, beneath}
use Rattle.plain_trees.specs.Trees.{is_too_deep}
use Rattle.fs_types.proofs.Orders.{path_ties, same_path-own}
use Rattle.plain_trees.proofs.Beneath.{by_beneath}
use Rattle.plain_trees.proofs.FileTrees.{not-deep}
use Rattle.node_format.specs.declared.place.Place.{Place}
use Rattle.node_format.specs.declared.place.Place.TheVariants.{Dir}
use Rattle.nodes.specs.Bodies.{Blocks}
use Rattle.nodes.specs.Trees.{leads, entry_at, IsRoot, root_tree}
use Rattle.nodes.specs.TreeLaws.{IsShallow, DepthLaw}
use Rattle.nodes.proofs.RootMaps.{map_law}
use Rattle.nodes.proofs.MovedTrees.{leads_on}

either : (x y : Bool) → x ≡ false → y ≡ false → (x || y) ≡ false
either x y a b = λ i. a i || b i

later : (x y : Bool) → y ≡ true → (x || y) ≡ true
later true y e = refl
later false y e = e

-- a test that each key fails
no_key : (test : Path → Bool) (ks : List Path) → ((q : Path) → list_any (eq_by_cmp path_cmp q) ks ≡ true → test q ≡ false) → list_any test ks ≡ false
no_key test [] fails = refl
no_key test (k ∷ ks) fails =
    either (test k) (list_any test ks)
    (fails k (ap (λ (b : Bool). b || list_any (eq_by_cmp path_cmp k) ks) (sym (path_ties k k) ∙ same_path-own k)))
    (no_key test ks (λ q there. fails q (later (eq_by_cmp path_cmp q k) (list_any (eq_by_cmp path_cmp q) ks) there)))

some_stands : {A B : Type 0} (g : A → B) (o : Option A) → IsSome o → IsSome (option_map g o)
some_stands g None some = absurd cc
some_stands g (Some x) some = refl

some_leads : {A B : Type 0} (g : A → B) (o : Option A) → IsSome (option_map g o) → IsSome o
some_leads g None some = absurd cc
some_leads g (Some x) some = refl

module _ (capacity : ℕ) (f : Blocks) (root : ℕ) (old new : Path) (place : Place) (has : IsRoot capacity f root) (led : leads f (Dir root) old ≡ Some place) (lawful : length new ≤ 16) where
  -- what stands below `old` is what the place leads to
  stands : (r : Path) → get (root_tree capacity f root) (old ++ r) ≡ option_map (entry_at capacity f) (leads f place r)
  stands r = ap (λ (t : Path → Option Entry). t (old ++ r)) (map_law capacity f root has).same ∙ ap (option_map (entry_at capacity f)) (leads_on f (Dir root) place old r led)

  shallow : is_too_deep (root_tree capacity f root) old new ≡ false → IsShallow f place (16 - length new)
  shallow fits r leads_r =
      let short = not-deep (root_tree capacity f root) old new r fits (subst IsSome (sym (stands r)) (some_stands (entry_at capacity f) (leads f place r) leads_r)) in
      omega arith

  fits : IsShallow f place (16 - length new) → is_too_deep (root_tree capacity f root) old new ≡ false
  fits short = no_key (λ p. option_map_or (λ rest. nat_lt 16 (length new + length rest)) (beneath old p) false) (keys (root_tree capacity f root))
      (λ q there. by_beneath old q (λ o. option_map_or (λ rest. nat_lt 16 (length new + length rest)) o false ≡ false)
      (λ r is.
      let some : IsSome (get (root_tree capacity f root) (old ++ r)) = subst (λ (p : Path). IsSome (get (root_tree capacity f root) p)) is (contains_key-keys (root_tree capacity f root) q ∙ there) in
      let most = short r (some_leads (entry_at capacity f) (leads f place r) (subst IsSome (stands r) some)) in
      le-ltb 16 (length new + length r) (omega arith))
      (λ none. refl))

pub depth_law : DepthLaw
depth_law capacity f root old new place has led lawful = (shallow capacity f root old new place has led lawful, fits capacity f root old new place has led lawful)
