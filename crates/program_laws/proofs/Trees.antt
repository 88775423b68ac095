-- All that stands in a tree is told, in order.
use Rattle.std.proofs.Common.{◌≡◌, ◌≢◌, ◌∙◌, ◌≤◌, ℕ, zero, suc, get_or, Bool, true, false, Option, Some, IsSome, List, [], ◌∷◌, ◌++◌, length, map, append_assoc, append-nil, refl, sym, ap, ap₂, subst, arith}
use Rattle.std.proofs.lemmas.Bool.{leb-true, and_parts}
use Rattle.std.proofs.lemmas.List.Elements.{All-nil, All-cons, All-append, All-weaker, All-contains}
use Rattle.std.proofs.lemmas.List.Kept.{AllPairs-cons}
use Rattle.std.specs.Prelude.{All, AllPairs, Contains, nat_le, if◌then◌else◌}
use Rattle.std.specs.Cmp.{tied_itself}
use Rattle.std.specs.FinMap.{get}
use Rattle.std.specs.List.{flat_map, list_all, AllByRecursion}
use Rattle.std.specs.List.Sorted.{IsStrictlySortedBy}
use Rattle.std.specs.Option.{option_map}
use Rattle.std.specs.Ordering.{ordering_then}
use Rattle.std.specs.declared.cmp.Ordering.TheVariants.{Less, Equal}
use Rattle.fs_types.specs.Names.{Name, Path, name_cmp, path_cmp, is_path, is_name}
use Rattle.fs_types.specs.declared.limits.TheConstants.{MAX_NAMES}
use Rattle.fs_types.proofs.Orders.{paths_total}
use Rattle.history_machine.specs.Machine.{stat_of}
use Rattle.plain_trees.specs.Contents.{Entry, is_dir}
use Rattle.plain_trees.specs.Trees.{Tree, children, IsFileTree}
use Rattle.plain_trees.proofs.Listings.{listing_law, path_cmp-append}
use Rattle.plain_trees.proofs.Lookups.{above, some-is}
use Rattle.inquiries.specs.Items.{item_at, items_below, items_of, IsItemOf}
use Rattle.inquiries.specs.declared.items.Item.{Item}
use Rattle.program_laws.specs.TreeLaw.{TreeLaw, PathOrderLaw}
use Rattle.inquiries.proofs.DifferenceLemmas.{items_there}
use Rattle.inquiries.proofs.Entries.{row}
use Rattle.program_laws.proofs.Pairs.{AllPairs-nil, AllPairs-append, AllPairs-weaker, All-flat_map, Contains-flat_map, Contains-first, Contains-later}

-- ---- the order of paths

below_less : (p : Path) (n : Name) (rest : Path) → path_cmp p (p ++ n ∷ rest) ≡ Less
below_less p n rest = ap (λ q. path_cmp q (p ++ n ∷ rest)) (sym (append-nil p)) ∙ path_cmp-append p [] (n ∷ rest)

names_less : (p : Path) (n m : Name) (rest more : Path) → name_cmp n m ≡ Less → path_cmp (p ++ n ∷ rest) (p ++ m ∷ more) ≡ Less
names_less p n m rest more less = path_cmp-append p (n ∷ rest) (m ∷ more) ∙ ap (λ o. ordering_then o (path_cmp rest more)) less

pub path_order : PathOrderLaw
path_order = record { directories = below_less; names = names_less }

pub less_other : (p q : Path) → path_cmp p q ≡ Less → p ≢ q
less_other p q less same = absurd (let wrong : Less ≡ Equal = sym less ∙ ap (path_cmp p) (sym same) ∙ tied_itself paths_total p in cc)

abbrev pub Ascends : Item → Item → Type 0
Ascends x y = path_cmp x.path y.path ≡ Less

-- ---- where the items of a directory stand

-- an item stands at an entry of a directory, or below it
abbrev IsWithin : Path → Name → Item → Type 0
IsWithin p n item = (rest : Path) × (item.path ≡ p ++ n ∷ rest)

abbrev IsBelow : Path → Item → Type 0
IsBelow p item = (n : Name) × IsWithin p n item

deeper : (p : Path) (n : Name) (item : Item) → IsBelow (p ++ n ∷ []) item → IsWithin p n item
deeper p n item (m, (rest, is)) = (m ∷ rest, is ∙ append_assoc p (n ∷ []) (m ∷ rest))

row_within : (t : Tree) (levels : ℕ) (p : Path) (n : Name) (b : Bool) → All (IsBelow (p ++ n ∷ [])) (items_below t levels (p ++ n ∷ [])) → All (IsWithin p n) (row t levels p (n, b))
row_within t levels p n true all = All-cons (IsWithin p n) (item_at t (p ++ n ∷ [])) (items_below t levels (p ++ n ∷ [])) ([], refl) (All-weaker (IsBelow (p ++ n ∷ [])) (IsWithin p n) (deeper p n) (items_below t levels (p ++ n ∷ [])) all)
row_within t levels p n false all = All-cons (IsWithin p n) (item_at t (p ++ n ∷ [])) [] ([], refl) (All-nil (IsWithin p n))

pub items_within : (t : Tree) (levels : ℕ) (p : Path) → All (IsBelow p) (items_below t levels p)
unfolding items_below
items_within t zero p = All-nil (IsBelow p)
items_within t (suc levels) p =
    All-flat_map (IsBelow p) (row t levels p) (children t p)
    (every (children t p) (λ e. All-weaker (IsWithin p e.0) (IsBelow p) (λ item within. (e.0, within)) (row t levels p e) (row_within t levels p e.0 e.1 (items_within t levels (p ++ e.0 ∷ [])))))
  where
    every : (es : List (Name × Bool)) → ((e : Name × Bool) → All (IsBelow p) (row t levels p e)) → All (λ e. All (IsBelow p) (row t levels p e)) es
    every es each k d within = each (get_or es k d)

-- ---- in which order

-- an entry comes before what stands below it
row_ordered : (t : Tree) (levels : ℕ) (p : Path) (n : Name) (b : Bool) → AllPairs Ascends (items_below t levels (p ++ n ∷ [])) → AllPairs Ascends (row t levels p (n, b))
row_ordered t levels p n true ordered =
    AllPairs-cons Ascends (item_at t (p ++ n ∷ [])) (items_below t levels (p ++ n ∷ []))
    (All-weaker (IsBelow (p ++ n ∷ [])) (Ascends (item_at t (p ++ n ∷ []))) (λ item below. ap (path_cmp (p ++ n ∷ [])) below.1.1 ∙ below_less (p ++ n ∷ []) below.0 below.1.0) (items_below t levels (p ++ n ∷ [])) (items_within t levels (p ++ n ∷ [])))
    ordered
row_ordered t levels p n false ordered = AllPairs-cons Ascends (item_at t (p ++ n ∷ [])) [] (All-nil (Ascends (item_at t (p ++ n ∷ [])))) (AllPairs-nil Ascends)

-- an item stands at a later entry of a directory, or below it
abbrev IsAfter : Path → Name → Item → Type 0
IsAfter p n item = (m : Name) × (name_cmp n m ≡ Less) × IsWithin p m item

rows_after : (t : Tree) (levels : ℕ) (p : Path) (n : Name) (es : List (Name × Bool)) → AllByRecursion (λ m. name_cmp n m ≡ Less) (map (λ (e : Name × Bool). e.0) es) → All (IsAfter p n) (flat_map (row t levels p) es)
rows_after t levels p n [] later = All-nil (IsAfter p n)
rows_after t levels p n (e ∷ es) later =
    All-append (IsAfter p n) (row t levels p e) (flat_map (row t levels p) es)
    (All-weaker (IsWithin p e.0) (IsAfter p n) (λ item within. (e.0, later.0, within)) (row t levels p e) (row_within t levels p e.0 e.1 (items_within t levels (p ++ e.0 ∷ []))))
    (rows_after t levels p n es later.1)

apart : (p : Path) (n : Name) (first second : Item) → IsWithin p n first → IsAfter p n second → Ascends first second
apart p n first second (rest, is) (m, less, (more, at)) = ap₂ path_cmp is at ∙ names_less p n m rest more less

rows_ordered : (t : Tree) (levels : ℕ) (p : Path) (es : List (Name × Bool)) → ((q : Path) → AllPairs Ascends (items_below t levels q)) → IsStrictlySortedBy name_cmp (map (λ (e : Name × Bool). e.0) es)
    → AllPairs Ascends (flat_map (row t levels p) es)
unfolding IsStrictlySortedBy
rows_ordered t levels p [] below sorted = AllPairs-nil Ascends
rows_ordered t levels p (e ∷ es) below sorted =
    AllPairs-append Ascends (row t levels p e) (flat_map (row t levels p) es) (row_ordered t levels p e.0 e.1 (below (p ++ e.0 ∷ []))) (rows_ordered t levels p es below sorted.1)
    (All-weaker (IsWithin p e.0) (λ first. All (Ascends first) (flat_map (row t levels p) es))
    (λ first within. All-weaker (IsAfter p e.0) (Ascends first) (λ second after. apart p e.0 first second within after) (flat_map (row t levels p) es) (rows_after t levels p e.0 es sorted.0))
    (row t levels p e) (row_within t levels p e.0 e.1 (items_within t levels (p ++ e.0 ∷ []))))

pub items_ordered : (t : Tree) (levels : ℕ) (p : Path) → AllPairs Ascends (items_below t levels p)
unfolding items_below
items_ordered t zero p = AllPairs-nil Ascends
items_ordered t (suc levels) p = rows_ordered t levels p (children t p) (λ q. items_ordered t levels q) (listing_law.in_order t p)

-- ---- all that stands there

module _ (t : Tree) (lawful : IsFileTree t) where
  entry_listed : (p : Path) (n : Name) (x : Entry) → get t (p ++ n ∷ []) ≡ Some x → Contains (children t p) (n, is_dir x)
  entry_listed p n x there = (listing_law.exact t p n (is_dir x)).1 (ap (option_map is_dir) there)

  pub told_below : (levels : ℕ) (p : Path) (n : Name) (rest : Path) (x : Entry) → length (n ∷ rest) ≤ levels → get t (p ++ n ∷ rest) ≡ Some x → Contains (items_below t levels p) (item_at t (p ++ n ∷ rest))
  unfolding items_below
  told_below zero p n rest x short there = absurd (omega arith)
  told_below (suc levels) p n [] x short there =
      Contains-flat_map (row t levels p) (children t p) (n, is_dir x) (item_at t (p ++ n ∷ [])) (entry_listed p n x there)
      (Contains-first (item_at t (p ++ n ∷ [])) (if is_dir x then items_below t levels (p ++ n ∷ []) else []))
  told_below (suc levels) p n (m ∷ rest) x short there =
      let joined : (p ++ n ∷ []) ++ (m ∷ rest) ≡ p ++ n ∷ m ∷ rest = append_assoc p (n ∷ []) (m ∷ rest) in
      let deeper : get t ((p ++ n ∷ []) ++ m ∷ rest) ≡ Some x = ap (get t) joined ∙ there in
      let is : get t (p ++ n ∷ []) ≡ Some Entry.Dir = above (get t) lawful.shape (p ++ n ∷ []) rest m (some-is (get t ((p ++ n ∷ []) ++ m ∷ rest)) x deeper) in
      subst (λ (q : Path). Contains (items_below t (suc levels) p) (item_at t q)) joined
      (Contains-flat_map (row t levels p) (children t p) (n, true) (item_at t ((p ++ n ∷ []) ++ m ∷ rest)) (entry_listed p n Entry.Dir is)
      (Contains-later (item_at t ((p ++ n ∷ []) ++ m ∷ rest)) (item_at t (p ++ n ∷ [])) (items_below t levels (p ++ n ∷ [])) (told_below levels (p ++ n ∷ []) m rest x (omega arith) deeper)))

  pub told : (p : Path) (x : Entry) → p ≢ [] → get t p ≡ Some x → Contains (items_of t) (item_at t p)
  told [] x below there = absurd (below refl)
  told (n ∷ rest) x below there = told_below MAX_NAMES [] n rest x (short (n ∷ rest) (lawful.paths (n ∷ rest) (some-is (get t (n ∷ rest)) x there))) there
    where
      short : (p : Path) → is_path p ≡ true → length p ≤ MAX_NAMES
      short p is = leb-true (length p) 16 (and_parts (list_all is_name p) (nat_le (length p) 16) is).1

  stands : (p : Path) (x : Entry) → p ≢ [] → get t p ≡ Some x → Contains (items_of t) (record { path = p; stat = stat_of t p (Some x) })
  stands p x below there = subst (λ (o : Option Entry). Contains (items_of t) (record { path = p; stat = stat_of t p o })) there (told p x below there)

  file_below : (p : Path) (bytes : List ℕ) → get t p ≡ Some (Entry.File bytes) → p ≢ []
  file_below p bytes there root = absurd (let wrong : Some (Entry.File bytes) ≡ Some Entry.Dir = sym there ∙ ap (get t) root ∙ lawful.shape.root in cc)

  below_root : (item : Item) → IsBelow [] item → item.path ≢ []
  below_root item (n, (rest, is)) root = absurd (let wrong : n ∷ rest ≡ [] = sym is ∙ root in cc)

  pub others : (item : Item) → Contains (items_of t) item → (item.path ≢ []) × IsSome (get t item.path)
  others item has =
      (below_root item (All-contains (IsBelow []) (items_of t) item (items_within t MAX_NAMES []) has), (All-contains (IsItemOf t) (items_of t) item (items_there t MAX_NAMES []) has).there)

pub tree_law : TreeLaw
tree_law t lawful = record {
  directories = λ p below there. stands t lawful p Entry.Dir below there;
  files = λ p bytes there. stands t lawful p (Entry.File bytes) (file_below t lawful p bytes there) there;
  others = others t lawful;
  once = AllPairs-weaker Ascends (λ first second. first.path ≢ second.path) (λ first second less. less_other first.path second.path less) (items_of t) (items_ordered t MAX_NAMES []);
  order = items_ordered t MAX_NAMES [];
}
