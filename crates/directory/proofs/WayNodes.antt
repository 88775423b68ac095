-- How many nodes a look up goes through.
use Rattle.std.proofs.Common.{◌≡◌, ℕ, zero, suc, ◌+◌, ◌*◌, ◌≤◌, max, eqb, Option, Some, unwrap_or, Result, Ok, Err, List, [], ◌∷◌, ◌++◌, length, take, refl, sym, ap, subst, ◌∙◌, arith, append_assoc, length-append}
use Rattle.std.specs.Prelude.{sum_by}
use Rattle.std.specs.Option.{option_and_then}
use Rattle.std.specs.List.{range_with_len}
use Rattle.std.proofs.lemmas.List.{take_at, length-map}
use Rattle.std.proofs.lemmas.List.Sums.{sum_by-cons}
use Rattle.fs_types.specs.declared.limits.TheConstants.{CHAIN_NODES}
use Rattle.fs_types.specs.declared.fault.Fault.{Fault}
use Rattle.fs_types.specs.Names.{Name, Path}
use Rattle.plain_trees.specs.Trees.{Tree, children, entry_count, nodes_for, directory_need}
use Rattle.node_format.specs.Items.{Item, is_dir_place}
use Rattle.node_format.specs.declared.place.Place.{Place}
use Rattle.node_format.specs.declared.place.Place.TheVariants.{Dir}
use Rattle.nodes.specs.Bodies.{Blocks}
use Rattle.nodes.specs.Chains.{next_of, most_after, items_in, blocks_after, chain}
use Rattle.nodes.specs.Trees.{child, leads, root_tree, names_of}
use Rattle.nodes.proofs.ChainCounts.{count_law}
use Rattle.nodes.proofs.Chains.{by_test}
use Rattle.nodes.proofs.RootMaps.{leads-append, map_law}
use Rattle.directory.specs.Lookups.{below_in, nodes_on_way, way_nodes, LeadsToDirectories, MostNodesLaw, TreeNodesLaw}
use Rattle.directory.proofs.LookupLaws.{rooted_leads}
use Rattle.directory.proofs.Directories.{child_below}

-- ---- at most 32 nodes for each name

few_after : (n : ℕ) (f : Blocks) (next : ℕ) → length (blocks_after n f next) ≤ n
few_after zero f next = omega arith
few_after (suc n) f next = by_test (eqb next 0)
    (λ none. let no : length (blocks_after (suc n) f next) ≡ 0 = rw none refl in omega (arith, no))
    (λ some. let more : length (blocks_after (suc n) f next) ≡ suc (length (blocks_after n f (next_of (f next)))) = rw some refl in omega (arith, more, few_after n f (next_of (f next))))

few_nodes : (f : Blocks) (block : ℕ) → length (chain f block) ≤ CHAIN_NODES
few_nodes f block = omega (arith, few_after most_after f (next_of (f block)))

pub most_nodes : MostNodesLaw
most_nodes f root [] = omega arith
most_nodes f root (n ∷ path) = omega (arith, few_nodes f root, below (below_in f n root) (λ block. most_nodes f block path))
  where
    below : (r : Result ℕ Fault) → ((block : ℕ) → way_nodes f block path ≤ CHAIN_NODES * length path) → nodes_on_way (λ block. way_nodes f block path) r ≤ CHAIN_NODES * length path
    below (Err fault) few = omega arith
    below (Ok block) few = few block

-- ---- as many as there are for the entries

-- a directory in a tree has as many nodes as its entries need
pub led_nodes : (f : Blocks) (root : ℕ) (t : Tree) → LeadsToDirectories f root → ((path : Path) (block : ℕ) → leads f (Dir root) path ≡ Some (Dir block) → children t path ≡ names_of (items_in f block))
    → (path : Path) (block : ℕ) → leads f (Dir root) path ≡ Some (Dir block) → length (chain f block) ≡ nodes_for (entry_count t path)
led_nodes f root t whole lists path block led =
    let begins = whole path block led in
    let size : entry_count t path ≡ length begins.0 =
    ap length (lists path block led) ∙ length-map (items_in f block) (λ (item : Item). (item.name, is_dir_place item.place)) ∙ ap (λ (o : Option (List Item)). length (unwrap_or o [])) begins.1 in
    count_law f block begins.0 begins.1 ∙ ap nodes_for (sym size)

-- the names of a path after some names
module _ (f : Blocks) (root : ℕ) (t : Tree) (whole : LeadsToDirectories f root) (lists : (path : Path) (block : ℕ) → leads f (Dir root) path ≡ Some (Dir block) → children t path ≡ names_of (items_in f block)) where
  here : (front : Path) (block : ℕ) → leads f (Dir root) front ≡ Some (Dir block) → length (chain f block) ≤ directory_need t t front
  here front block led =
      let same = led_nodes f root t whole lists front block led in
      greater (length (chain f block)) (nodes_for (entry_count t front)) (omega (arith, same))
    where
      greater : (k n : ℕ) → k ≤ n → k ≤ max n n
      greater k n le = omega arith

  leads_more : (front : Path) (block below : ℕ) (n : Name) → leads f (Dir root) front ≡ Some (Dir block) → child f (Dir block) n ≡ Some (Dir below) → leads f (Dir root) (front ++ n ∷ []) ≡ Some (Dir below)
  leads_more front block below n led is =
      leads-append f (Dir root) front (n ∷ []) ∙ ap (λ (o : Option Place). option_and_then (λ next. leads f next (n ∷ [])) o) led ∙ ap (option_and_then (λ next. leads f next [])) is

  way_sum : (path front rest : Path) (block : ℕ) → path ≡ front ++ rest → leads f (Dir root) front ≡ Some (Dir block) → way_nodes f block rest ≤ sum_by (λ i. directory_need t t (take i path)) (range_with_len (length front) (length rest))
  way_sum path front [] block is led = omega arith
  way_sum path front (n ∷ rest) block is led =
      let cut : take (length front) path ≡ front = ap (take (length front)) is ∙ take_at front (n ∷ rest) (length front) refl in
      let now : length (chain f block) ≤ directory_need t t (take (length front) path) = subst (λ (p : Path). length (chain f block) ≤ directory_need t t p) (sym cut) (here front block led) in
      omega (arith, now, below (λ to led_on. way_sum path (front ++ n ∷ []) rest to (is ∙ sym (append_assoc front (n ∷ []) rest)) led_on) (below_in f n block) refl, sum_by-cons (λ (i : ℕ). directory_need t t (take i path)) (length front) (range_with_len (length front + 1) (length rest)))
    where
      next : ((to : ℕ) → leads f (Dir root) (front ++ n ∷ []) ≡ Some (Dir to) → way_nodes f to rest ≤ sum_by (λ i. directory_need t t (take i path)) (range_with_len (length (front ++ n ∷ [])) (length rest))) → (to : ℕ) → below_in f n block ≡ Ok to
          → way_nodes f to rest ≤ sum_by (λ i. directory_need t t (take i path)) (range_with_len (length front + 1) (length rest))
      next again to e =
          let begins = whole front block led in
          let child_is = child_below f block n to begins.0 begins.1 e in
          let size : length (front ++ n ∷ []) ≡ length front + 1 = omega (arith, length-append front (n ∷ [])) in
          subst (λ (k : ℕ). way_nodes f to rest ≤ sum_by (λ i. directory_need t t (take i path)) (range_with_len k (length rest))) size (again to (leads_more front block to n led child_is))

      below : ((to : ℕ) → leads f (Dir root) (front ++ n ∷ []) ≡ Some (Dir to) → way_nodes f to rest ≤ sum_by (λ i. directory_need t t (take i path)) (range_with_len (length (front ++ n ∷ [])) (length rest))) → (r : Result ℕ Fault) → below_in f n block ≡ r
          → nodes_on_way (λ to. way_nodes f to rest) r ≤ sum_by (λ i. directory_need t t (take i path)) (range_with_len (length front + 1) (length rest))
      below again (Err fault) e = omega arith
      below again (Ok to) e = next again to e

pub tree_nodes : TreeNodesLaw
tree_nodes capacity f root path is_root =
    way_sum f root (root_tree capacity f root) (rooted_leads capacity f root is_root) (map_law capacity f root is_root).lists path [] path root refl refl
