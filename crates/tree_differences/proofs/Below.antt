-- What differs below places is what a test of paths keeps of the tree.
use Rattle.std.proofs.Common.{◌≡◌, ◌∙◌, ℕ, zero, suc, Bool, true, false, cond, not, Option, Some, None, List, [], ◌∷◌, ◌++◌, refl, sym, ap, ap₂, arith}
use Rattle.std.proofs.lemmas.List.Folds.{flat_map-map}
use Rattle.std.specs.Prelude.{◌==◌, ◌&&◌, filter, if◌then◌else◌}
use Rattle.std.specs.FinMap.{get}
use Rattle.std.specs.List.{flat_map}
use Rattle.std.specs.Option.{option_map, option_and_then}
use Rattle.fs_types.specs.Names.{Name, Path}
use Rattle.fs_types.specs.declared.limits.TheConstants.{MAX_NAMES}
use Rattle.node_format.specs.Items.{Item, is_dir_place, named_place}
use Rattle.node_format.specs.declared.place.Place.{Place}
use Rattle.node_format.specs.declared.place.Place.TheVariants.{Dir, File}
use Rattle.nodes.specs.Bodies.{Blocks}
use Rattle.nodes.specs.TreeLaws.{MapLaw}
use Rattle.nodes.specs.Trees.{items_in, leads, entry_at, root_tree, IsRoot}
use Rattle.nodes.proofs.Chained.{entry_named}
use Rattle.nodes.proofs.RootMaps.{leads-append, map_law}
use Rattle.plain_trees.specs.Contents.{Entry}
use Rattle.plain_trees.specs.Trees.{Tree}
use Rattle.tree_differences.specs.Updates.{paths_below}
use Rattle.tree_differences.specs.Differing.{is_alike, differs_at, differing_paths, differing_below, child_at, told, IsReadable}
use Rattle.tree_differences.proofs.Lists.{flat_same, flat_none, filter_flat}

-- ---- the same place

same_number : (n : ℕ) → (n == n) ≡ true
same_number n = grind (arith)

alike_itself : (o : Option Place) → is_alike o o ≡ true
alike_itself None = refl
alike_itself (Some (Dir block)) = refl
alike_itself (Some (File head size)) = ap₂ (λ (a b : Bool). a && b) (same_number head) (same_number size)

pub told_none : (path : Path) (at : Place) → told path at (Some at) ≡ []
told_none path at = ap (λ (b : Bool). if b then [] else path ∷ []) (alike_itself (Some at))

-- nothing differs below the same place
pub same_below : (f : Blocks) (levels : ℕ) (directory : Path) (at : Place) → differing_below f levels directory at (Some at) ≡ []
unfolding differing_below
same_below f zero directory at = refl
same_below f (suc levels) directory (File head size) = refl
same_below f (suc levels) directory (Dir block) =
    flat_none (λ (item : Item). told (directory ++ item.name ∷ []) item.place (child_at f (Some (Dir block)) item.name) ++ differing_below f levels (directory ++ item.name ∷ []) item.place (child_at f (Some (Dir block)) item.name)) (items_in f block)
    (λ item has.
    ap (λ (o : Option Place). told (directory ++ item.name ∷ []) item.place o ++ differing_below f levels (directory ++ item.name ∷ []) item.place o) (entry_named f block item has)
    ∙ ap₂ (λ (a b : List Path). a ++ b) (told_none (directory ++ item.name ∷ []) item.place) (same_below f levels (directory ++ item.name ∷ []) item.place))

-- nor below a file
pub file_below : (f : Blocks) (levels : ℕ) (directory : Path) (head size : ℕ) (other : Option Place) → differing_below f levels directory (File head size) other ≡ []
unfolding differing_below
file_below f zero directory head size other = refl
file_below f (suc levels) directory head size other = refl

-- ---- what paths lead to

leads_one : (f : Blocks) (block : ℕ) (n : Name) → leads f (Dir block) (n ∷ []) ≡ named_place (items_in f block) n
leads_one f block n = go (named_place (items_in f block) n)
  where
    go : (o : Option Place) → option_and_then (λ next. leads f next []) o ≡ o
    go None = refl
    go (Some to) = refl

-- one name on
pub leads_on : (f : Blocks) (root : ℕ) (path : Path) (n : Name) (at : Option Place) → leads f (Dir root) path ≡ at → leads f (Dir root) (path ++ n ∷ []) ≡ child_at f at n
leads_on f root path n at is = leads-append f (Dir root) path (n ∷ []) ∙ ap (option_and_then (λ next. leads f next (n ∷ []))) is ∙ go at
  where
    go : (o : Option Place) → option_and_then (λ next. leads f next (n ∷ [])) o ≡ child_at f o n
    go None = refl
    go (Some (Dir block)) = leads_one f block n
    go (Some (File head size)) = refl

-- a place of a tree may be gone on from
pub readable_root : (capacity : ℕ) (f : Blocks) (root : ℕ) → IsRoot capacity f root → IsReadable f (Some (Dir root))
readable_root capacity f root is path (Dir block) to = (is path (Dir block) to).0
readable_root capacity f root is path (File head size) to = tt

pub readable_child : (f : Blocks) (at : Option Place) (n : Name) → IsReadable f at → IsReadable f (child_at f at n)
readable_child f None n can = tt
readable_child f (Some (File head size)) n can = tt
readable_child f (Some (Dir block)) n can = go (named_place (items_in f block) n) refl
  where
    go : (o : Option Place) → named_place (items_in f block) n ≡ o → IsReadable f o
    go None is = tt
    go (Some next) is = λ path at to. can (n ∷ path) at (ap (option_and_then (λ next. leads f next path)) is ∙ to)

-- ---- the tree of a root

module _ (capacity : ℕ) (f : Blocks) (root other : ℕ) (is_root : IsRoot capacity f root) where
  abbrev t : Tree
  t = root_tree capacity f root

  law : MapLaw capacity f root
  law = map_law capacity f root is_root

  abbrev differs : Path → Bool
  differs = differs_at f root other

  kept_first : (b : Bool) (path : Path) (paths : List Path) → cond (not b) (path ∷ paths) paths ≡ (if b then [] else path ∷ []) ++ paths
  kept_first true path paths = refl
  kept_first false path paths = refl

  pub below_told : (levels : ℕ) (directory : Path) (block : ℕ) (there : Option Place) → leads f (Dir root) directory ≡ Some (Dir block) → leads f (Dir other) directory ≡ there
      → filter (differs_at f root other) (paths_below (root_tree capacity f root) levels directory) ≡ differing_below f levels directory (Dir block) there
  unfolding paths_below differing_below
  below_told zero directory block there at to = refl
  below_told (suc levels) directory block there at to =
      let row : Name × Bool → List Path = λ entry. (directory ++ entry.0 ∷ []) ∷ (if entry.1 then paths_below t levels (directory ++ entry.0 ∷ []) else []) in
      ap (λ (es : List (Name × Bool)). filter differs (flat_map row es)) (law.lists directory block at)
      ∙ ap (filter differs) (flat_map-map row (λ (item : Item). (item.name, is_dir_place item.place)) (items_in f block))
      ∙ filter_flat differs (λ (item : Item). row (item.name, is_dir_place item.place)) (items_in f block)
      ∙ flat_same (λ (item : Item). filter differs (row (item.name, is_dir_place item.place)))
      (λ (item : Item). told (directory ++ item.name ∷ []) item.place (child_at f there item.name) ++ differing_below f levels (directory ++ item.name ∷ []) item.place (child_at f there item.name)) (items_in f block)
      (λ item has. each item.name item.place (child_at f there item.name)
      (leads_on f root directory item.name (Some (Dir block)) at ∙ entry_named f block item has) (leads_on f other directory item.name there to) (below_told levels))
    where
      each : (n : Name) (place : Place) (o : Option Place) → leads f (Dir root) (directory ++ n ∷ []) ≡ Some place → leads f (Dir other) (directory ++ n ∷ []) ≡ o
          → ((p : Path) (b : ℕ) (x : Option Place) → leads f (Dir root) p ≡ Some (Dir b) → leads f (Dir other) p ≡ x → filter differs (paths_below t levels p) ≡ differing_below f levels p (Dir b) x)
          → filter differs ((directory ++ n ∷ []) ∷ (if is_dir_place place then paths_below t levels (directory ++ n ∷ []) else [])) ≡ told (directory ++ n ∷ []) place o ++ differing_below f levels (directory ++ n ∷ []) place o
      each n place o at' to' again =
          let path : Path = directory ++ n ∷ [] in
          let rest : List Path = if is_dir_place place then paths_below t levels path else [] in
          ap (λ (b : Bool). cond b (path ∷ filter differs rest) (filter differs rest)) (ap₂ (λ (a b : Option Place). not (is_alike a b)) at' to')
          ∙ kept_first (is_alike (Some place) o) path (filter differs rest)
          ∙ ap (λ (l : List Path). told path place o ++ l) (deeper place at')
        where
          deeper : (at : Place) → leads f (Dir root) (directory ++ n ∷ []) ≡ Some at → filter differs (if is_dir_place at then paths_below t levels (directory ++ n ∷ []) else []) ≡ differing_below f levels (directory ++ n ∷ []) at o
          deeper (Dir b) is = again (directory ++ n ∷ []) b o is to'
          deeper (File head size) is = sym (file_below f levels (directory ++ n ∷ []) head size o)

  -- all of it
  pub paths_told : differing_below f MAX_NAMES [] (Dir root) (Some (Dir other)) ≡ differing_paths f root other (root_tree capacity f root)
  paths_told = sym (below_told MAX_NAMES [] root (Some (Dir other)) refl refl)

-- at each path that is not told two trees have the same
alike_entries : (capacity : ℕ) (f : Blocks) (o there : Option Place) → not (is_alike o there) ≡ false → option_map (entry_at capacity f) o ≡ option_map (entry_at capacity f) there
alike_entries capacity f None None alike = refl
alike_entries capacity f None (Some (Dir block)) alike = absurd cc
alike_entries capacity f None (Some (File head size)) alike = absurd cc
alike_entries capacity f (Some (Dir block)) None alike = absurd cc
alike_entries capacity f (Some (Dir block)) (Some (Dir there)) alike = refl
alike_entries capacity f (Some (Dir block)) (Some (File head size)) alike = absurd cc
alike_entries capacity f (Some (File head size)) None alike = absurd cc
alike_entries capacity f (Some (File head size)) (Some (Dir there)) alike = absurd cc
alike_entries capacity f (Some (File head size)) (Some (File there bytes)) alike =
    let parts = both_same head there size bytes alike in
    ap₂ (λ (h n : ℕ). Some (entry_at capacity f (File h n))) parts.0 parts.1
  where
    both_same : (a b c d : ℕ) → not ((a == b) && (c == d)) ≡ false → (a ≡ b) × (c ≡ d)
    both_same a b c d is = (grind (arith, is), grind (arith, is))

pub same_untold : (capacity : ℕ) (f : Blocks) (root other : ℕ) → IsRoot capacity f root → IsRoot capacity f other → (path : Path) → differs_at f root other path ≡ false
    → get (root_tree capacity f root) path ≡ get (root_tree capacity f other) path
same_untold capacity f root other is is' path untold =
    ap (λ (g : Path → Option Entry). g path) (map_law capacity f root is).same
    ∙ alike_entries capacity f (leads f (Dir root) path) (leads f (Dir other) path) untold
    ∙ sym (ap (λ (g : Path → Option Entry). g path) (map_law capacity f other is').same)
