-- The finite map of a root: what it has at each path, and how it lists a directory.
use Rattle.std.proofs.Common.{◌≡◌, ℕ, zero, suc, ◌≤◌, Bool, true, false, cond, ◌&&◌, T, Option, Some, None, List, [], ◌∷◌, ◌++◌, length, map, sym, ap, refl, ◌∙◌, subst, arith}
use Rattle.std.specs.Prelude.{nat_le, unwrap_or}
use Rattle.std.proofs.lemmas.List.{length-map}
use Rattle.std.specs.Option.{option_map, option_and_then, option_or}
use Rattle.std.specs.List.{flat_map, list_all}
use Rattle.std.specs.Ordering.{eq_by_cmp}
use Rattle.std.specs.FinMap.{get, find, is_sorted, get-entries, get-from_entries}
use Rattle.std.specs.FinMap.Entries.{below_all, same_entries}
use Rattle.fs_types.specs.declared.limits.TheConstants.{MAX_ENTRIES}
use Rattle.fs_types.specs.Names.{Name, Path, same_name, name_cmp, path_cmp}
use Rattle.plain_trees.specs.Contents.{Entry, is_dir, leaf}
use Rattle.plain_trees.specs.Trees.{bare, children, is_full}
use Rattle.fs_types.proofs.Orders.{names_total, names_exact, paths_total, name_ties, path_ties, same_name-is, same_name-own}
use Rattle.plain_trees.proofs.Beneath.{None≢Some, same_Some}
use Rattle.plain_trees.proofs.Listings.{directory, get-directory, entries-directory, children-sorted}
use Rattle.plain_trees.proofs.Edits.{get-bare, same_tree}
use Rattle.node_format.specs.Items.{Item, is_before, are_ascending, named_place}
use Rattle.node_format.specs.EntryLaws.{after-differs}
use Rattle.node_format.specs.Order.{both_true}
use Rattle.node_format.specs.declared.place.Place.{Place}
use Rattle.node_format.specs.declared.place.Place.TheVariants.{Dir, File}
use Rattle.nodes.specs.Bodies.{Blocks}
use Rattle.nodes.proofs.Chained.{directory_ascends}
use Rattle.nodes.specs.Trees.{entries_in, child, leads, entry_at, tree_at, tree, IsWholePlace, HasTree, IsRoot, listed, root_tree, names_of, is_dir_place, items_in}
use Rattle.nodes.specs.TreeLaws.{AllMaps}

-- ---- the first entry of a path in a list

abbrev first : Path → List (Path × Entry) → Option Entry
first q es = find path_cmp q es

first-append : (q : Path) (es fs : List (Path × Entry)) → first q (es ++ fs) ≡ option_or (first q es) (first q fs)
first-append q [] fs = refl
first-append q (e ∷ es) fs =
    elim (eq_by_cmp path_cmp q e.0) as (λ b. cond b (Some e.1) (first q (es ++ fs)) ≡ option_or (cond b (Some e.1) (first q es)) (first q fs)) [
      | true ↦ refl
      | false ↦ first-append q es fs
    ]

pub same_name-turned : (n m : Name) → same_name n m ≡ same_name m n
same_name-turned n m = go (same_name n m) refl (same_name m n) refl
  where
    go : (b : Bool) → same_name n m ≡ b → (c : Bool) → same_name m n ≡ c → b ≡ c
    go true e true g = refl
    go true e false g = sym (same_name-own m) ∙ ap (same_name m) (sym (same_name-is n m e)) ∙ g
    go false e true g = sym e ∙ ap (same_name n) (same_name-is m n g) ∙ same_name-own n
    go false e false g = refl

-- the same entries, below a name
abbrev below : Name → List (Path × Entry) → List (Path × Entry)
below m es = map (λ e. (m ∷ e.0, e.1)) es

first-below : (m n : Name) (q : Path) (es : List (Path × Entry)) → first (n ∷ q) (below m es) ≡ cond (same_name m n) (first q es) None
first-below m n q [] = elim (same_name m n) as (λ b. first q [] ≡ cond b (first q []) None) [ true ↦ refl | false ↦ refl ]
first-below m n q (e ∷ es) =
    let rest = first-below m n q es in
    ap (λ b. cond b (Some e.1) (first (n ∷ q) (below m es))) (sym (path_ties (n ∷ q) (m ∷ e.0)))
    ∙ (λ i. cond (same_name-turned n m i && path_ties q e.0 i) (Some e.1) (rest i))
    ∙ elim (same_name m n) as (λ b. cond (b && eq_by_cmp path_cmp q e.0) (Some e.1) (cond b (first q es) None) ≡ cond b (cond (eq_by_cmp path_cmp q e.0) (Some e.1) (first q es)) None) [ true ↦ refl | false ↦ refl ]

-- ---- the entries of a directory

-- a name before all the others leads to none of them
pub not-named_place : (items : List Item) (n : Name) → list_all (λ other. is_before n other.name) items ≡ true → named_place items n ≡ None
not-named_place [] n h = refl
not-named_place (item ∷ items) n h =
    let parts = both_true (is_before n item.name) (list_all (λ other. is_before n other.name) items) h in
    ap (λ b. cond b (Some item.place) (named_place items n)) (after-differs n item.name parts.0) ∙ not-named_place items n parts.1

or-None : {A : Type 0} (o : Option A) → option_or o None ≡ o
or-None None = refl
or-None (Some x) = refl

-- a name leads to what is listed at its place
first-items : (at : Place → List (Path × Entry)) (items : List Item) (n : Name) (q : Path) → are_ascending items ≡ true
    → first (n ∷ q) (flat_map (λ item. below item.name (at item.place)) items) ≡ option_and_then (λ place. first q (at place)) (named_place items n)
first-items at [] n q h = refl
first-items at (item ∷ items) n q h =
    let parts = both_true (list_all (λ other. is_before item.name other.name) items) (are_ascending items) h in
    first-append (n ∷ q) (below item.name (at item.place)) (flat_map (λ item. below item.name (at item.place)) items)
    ∙ (λ i. option_or (first-below item.name n q (at item.place) i) (first-items at items n q parts.1 i))
    ∙ go (same_name item.name n) refl parts.0
  where
    go : (b : Bool) → same_name item.name n ≡ b → list_all (λ other. is_before item.name other.name) items ≡ true
        → option_or (cond b (first q (at item.place)) None) (option_and_then (λ place. first q (at place)) (named_place items n))
        ≡ option_and_then (λ place. first q (at place)) (cond b (Some item.place) (named_place items n))
    go true same before =
        let none : named_place items n ≡ None = ap (named_place items) (sym (same_name-is item.name n same)) ∙ not-named_place items item.name before in
        ap (λ o. option_or (first q (at item.place)) (option_and_then (λ place. first q (at place)) o)) none ∙ or-None (first q (at item.place))
    go false other before = refl

-- ---- the entries of a tree

module _ (capacity : ℕ) (f : Blocks) where
  tree-below : (depth block : ℕ) (n : Name) (at : Place) → HasTree capacity f (Dir block) (suc depth) → child f (Dir block) n ≡ Some at → HasTree capacity f at depth
  tree-below depth block n at has is p to there =
      let all = has (n ∷ p) to (ap (option_and_then (λ next. leads f next p)) is ∙ there) in
      (all.0, let l : suc (length p) ≤ suc depth = all.1 in omega arith)

  -- no name leads on where paths have no name
  no-child : (block : ℕ) (n : Name) → HasTree capacity f (Dir block) zero → child f (Dir block) n ≡ None
  no-child block n has = go (child f (Dir block) n) refl
    where
      go : (o : Option Place) → child f (Dir block) n ≡ o → o ≡ None
      go None is = refl
      go (Some at) is = let l : 1 ≤ 0 = (has (n ∷ []) at (ap (option_and_then (λ next. leads f next [])) is)).1 in absurd (omega arith)

  -- what is listed at a path is what stands there
  pub first-listed : (depth : ℕ) (at : Place) → HasTree capacity f at depth → (q : Path) → first q (listed capacity f depth at) ≡ tree_at capacity f at q
  first-listed zero (File head size) has [] = refl
  first-listed zero (File head size) has (n ∷ q) = refl
  first-listed (suc depth) (File head size) has [] = refl
  first-listed (suc depth) (File head size) has (n ∷ q) = refl
  first-listed zero (Dir block) has [] = refl
  first-listed zero (Dir block) has (n ∷ q) = ap (λ o. option_map (entry_at capacity f) (option_and_then (λ next. leads f next q) o)) (sym (no-child block n has))
  first-listed (suc depth) (Dir block) has [] = refl
  first-listed (suc depth) (Dir block) has (n ∷ q) =
      first-items (listed capacity f depth) (items_in f block) n q (directory_ascends f block)
      ∙ go (named_place (items_in f block) n) refl (λ at tree. first-listed depth at tree q)
    where
      go : (o : Option Place) → named_place (items_in f block) n ≡ o → ((at : Place) → HasTree capacity f at depth → first q (listed capacity f depth at) ≡ tree_at capacity f at q)
          → option_and_then (λ at. first q (listed capacity f depth at)) o ≡ option_map (entry_at capacity f) (option_and_then (λ next. leads f next q) o)
      go None is rest = refl
      go (Some at) is rest = rest at (tree-below depth block n at has is)

  pub get-root_tree : (root : ℕ) → IsRoot capacity f root → (q : Path) → get (root_tree capacity f root) q ≡ tree capacity f root q
  get-root_tree root has q = get-from_entries paths_total (listed capacity f 16 (Dir root)) q ∙ first-listed 16 (Dir root) has q

-- ---- the names of a directory

-- the names of entries are in the order of the entries
below-names : (n : Name) (items : List Item) → below_all name_cmp n (names_of items) ≡ list_all (λ other. is_before n other.name) items
below-names n [] = refl
below-names n (item ∷ items) = ap (λ b. is_before n item.name && b) (below-names n items)

pub sorted-names : (items : List Item) → is_sorted name_cmp (names_of items) ≡ are_ascending items
sorted-names [] = refl
sorted-names (item ∷ items) = λ i. below-names item.name items i && sorted-names items i

is_dir-place : (capacity : ℕ) (f : Blocks) (at : Place) → is_dir_place at ≡ is_dir (entry_at capacity f at)
is_dir-place capacity f (Dir block) = refl
is_dir-place capacity f (File head size) = refl

pub find-names : (capacity : ℕ) (f : Blocks) (items : List Item) (n : Name) → find name_cmp n (names_of items) ≡ option_map is_dir (option_map (entry_at capacity f) (named_place items n))
find-names capacity f [] n = refl
find-names capacity f (item ∷ items) n =
    (λ i. cond ((sym (name_ties n item.name) ∙ same_name-turned n item.name) i) (Some (is_dir-place capacity f item.place i)) (find-names capacity f items n i))
    ∙ elim (same_name item.name n) as (λ b. cond b (Some (is_dir (entry_at capacity f item.place))) (option_map is_dir (option_map (entry_at capacity f) (named_place items n))) ≡ option_map is_dir (option_map (entry_at capacity f) (cond b (Some item.place) (named_place items n)))) [ true ↦ refl | false ↦ refl ]

pub leads-append : (f : Blocks) (at : Place) (p q : Path) → leads f at (p ++ q) ≡ option_and_then (λ next. leads f next q) (leads f at p)
leads-append f at [] q = refl
leads-append f at (n ∷ p) q = go (child f at n) (λ next. leads-append f next p q)
  where
    go : (o : Option Place) → ((next : Place) → leads f next (p ++ q) ≡ option_and_then (λ to. leads f to q) (leads f next p))
        → option_and_then (λ next. leads f next (p ++ q)) o ≡ option_and_then (λ to. leads f to q) (option_and_then (λ next. leads f next p) o)
    go None rest = refl
    go (Some next) rest = rest next

leads-child : (f : Blocks) (at : Place) (p : Path) (block : ℕ) (n : Name) → leads f at p ≡ Some (Dir block) → leads f at (p ++ n ∷ []) ≡ named_place (items_in f block) n
leads-child f at p block n is = leads-append f at p (n ∷ []) ∙ ap (option_and_then (λ next. leads f next (n ∷ []))) is ∙ go (named_place (items_in f block) n)
  where
    go : (o : Option Place) → option_and_then (λ next. leads f next []) o ≡ o
    go None = refl
    go (Some to) = refl

find-children : (capacity : ℕ) (f : Blocks) (root : ℕ) → IsRoot capacity f root → (path : Path) (block : ℕ) → leads f (Dir root) path ≡ Some (Dir block)
    → (n : Name) → find name_cmp n (children (root_tree capacity f root) path) ≡ find name_cmp n (names_of (items_in f block))
find-children capacity f root has path block is n =
    let t = root_tree capacity f root in
    ap (find name_cmp n) (sym (entries-directory t path))
    ∙ sym (get-entries (directory t path) n)
    ∙ get-directory t path n
    ∙ ap (option_map is_dir) (get-root_tree capacity f root has (path ++ n ∷ []) ∙ ap (option_map (entry_at capacity f)) (leads-child f (Dir root) path block n is))
    ∙ sym (find-names capacity f (items_in f block) n)

pub children-root_tree : (capacity : ℕ) (f : Blocks) (root : ℕ) → IsRoot capacity f root → (path : Path) (block : ℕ) → leads f (Dir root) path ≡ Some (Dir block)
    → children (root_tree capacity f root) path ≡ names_of (items_in f block)
children-root_tree capacity f root has path block is =
    same_entries name_cmp names_total names_exact (children (root_tree capacity f root) path) (names_of (items_in f block))
    (children-sorted (root_tree capacity f root) path)
    (subst T (sym (sorted-names (items_in f block) ∙ directory_ascends f block)) tt)
    (find-children capacity f root has path block is)

pub map_law : AllMaps
map_law capacity f root has = record {
  same = λ i q. get-root_tree capacity f root has q i;
  lists = λ path block is. children-root_tree capacity f root has path block is;
}

-- ---- what follows

-- a directory is full where it has as many entries as it may
pub full_directory : (capacity : ℕ) (f : Blocks) (root : ℕ) (path : Path) (block : ℕ) → IsRoot capacity f root → leads f (Dir root) path ≡ Some (Dir block)
    → is_full (root_tree capacity f root) path ≡ nat_le MAX_ENTRIES (length (items_in f block))
full_directory capacity f root path block has is =
    ap (λ es. nat_le MAX_ENTRIES (length es)) (children-root_tree capacity f root has path block is)
    ∙ ap (nat_le MAX_ENTRIES) (length-map (items_in f block) (λ (item : Item). (item.name, is_dir_place item.place)))

-- nothing stands below a directory without entries
empty-child : (f : Blocks) (block : ℕ) → entries_in f block ≡ Some [] → (n : Name) → child f (Dir block) n ≡ None
empty-child f block empty n = ap (λ o. named_place (unwrap_or o []) n) empty

-- an empty directory is a root, and has the bare tree
pub empty_root : (capacity : ℕ) (f : Blocks) (root : ℕ) → entries_in f root ≡ Some [] → IsRoot capacity f root × (root_tree capacity f root ≡ bare)
empty_root capacity f root empty = (has, same_tree (root_tree capacity f root) bare (λ q. get-root_tree capacity f root has q ∙ alone q ∙ sym (get-bare q)))
  where
    none : (n : Name) (p : Path) → leads f (Dir root) (n ∷ p) ≡ None
    none n p = ap (option_and_then (λ next. leads f next p)) (empty-child f root empty n)

    has : IsRoot capacity f root
    has [] at is = (subst (IsWholePlace capacity f) (same_Some is) ([], empty), omega arith)
    has (n ∷ p) at is = absurd (None≢Some (sym (none n p) ∙ is))

    alone : (q : Path) → tree capacity f root q ≡ leaf Entry.Dir q
    alone [] = refl
    alone (n ∷ p) = ap (option_map (entry_at capacity f)) (none n p)
