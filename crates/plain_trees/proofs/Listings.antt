-- The names in a directory: in byte order, and exactly those that stand there.
use Rattle.std.proofs.Common.{◌≡◌, ◌≢◌, ℕ, zero, suc, ◌<◌, Bool, true, false, cond, ◌&&◌, T, Option, Some, None, List, [], ◌∷◌, ◌++◌, length, map, filter_map, get_or, sym, ap, refl, ◌∙◌, subst, arith}
use Rattle.std.proofs.lemmas.Bool.{true≢false, cond-false}
use Rattle.std.specs.Prelude.{Contains}
use Rattle.std.specs.List.{cons_option, AllByRecursion}
use Rattle.std.specs.List.Sorted.{IsStrictlySortedBy}
use Rattle.std.specs.Option.{option_map}
use Rattle.std.specs.Ordering.{is_eq, is_lt, ordering_then, ordering_reverse, eq_by_cmp}
use Rattle.std.specs.declared.cmp.Ordering.{Ordering}
use Rattle.std.specs.declared.cmp.Ordering.TheVariants.{Less, Equal, Greater}
use Rattle.std.specs.Cmp.{tied_itself}
use Rattle.std.specs.FinMap.{FinMap, get, entries, find, is_sorted, entries_sorted, get-entries, from_sorted, entries-from_sorted, get-from_sorted, len, len-entries}
use Rattle.std.specs.FinMap.Entries.{below_all}
use Rattle.fs_types.specs.Names.{Name, Path, name_cmp, path_cmp}
use Rattle.plain_trees.specs.Contents.{Entry, is_dir, beneath}
use Rattle.plain_trees.specs.Trees.{Tree, named, child_of, children, entry_count}
use Rattle.plain_trees.specs.Laws.{ListingLaw}
use Rattle.fs_types.proofs.Orders.{names_total, names_exact, path_ties}
use Rattle.plain_trees.proofs.Beneath.{by_beneath, beneath-append, None≢Some, same_Some, same_path-false}

-- order of paths that go on from one path

then-Equal : (o : Ordering) → ordering_then o Equal ≡ o
then-Equal Less = refl
then-Equal Equal = refl
then-Equal Greater = refl

pub path_cmp-append : (p a b : Path) → path_cmp (p ++ a) (p ++ b) ≡ path_cmp a b
path_cmp-append [] a b = refl
path_cmp-append (n ∷ p) a b = ap (λ o. ordering_then o (path_cmp (p ++ a) (p ++ b))) (tied_itself names_total n) ∙ path_cmp-append p a b

pub path_cmp-children : (p : Path) (n m : Name) → path_cmp (p ++ n ∷ []) (p ++ m ∷ []) ≡ name_cmp n m
path_cmp-children p n m = path_cmp-append p (n ∷ []) (m ∷ []) ∙ then-Equal (name_cmp n m)

-- an entry that stands right in a directory, or does not

one_name : (p : Path) (r : Path) (m : Name) → p ++ r ≡ p ++ m ∷ [] → r ≡ m ∷ []
one_name p r m e = same_Some (sym (beneath-append p r) ∙ ap (beneath p) e ∙ beneath-append p (m ∷ []))

pub by_child : (p : Path) (q : Path) (x : Entry) (P : Option (Name × Bool) → Type 0) → ((m : Name) → q ≡ p ++ m ∷ [] → P (Some (m, is_dir x))) → (((m : Name) → q ≢ p ++ m ∷ []) → P None) → P (child_of p (q, x))
by_child p q x P so none = by_beneath p q (λ o. P (named o x)) under (λ e. none (λ m is. None≢Some (sym e ∙ ap (beneath p) is ∙ beneath-append p (m ∷ []))))
  where
    under : (r : Path) → q ≡ p ++ r → P (named (Some r) x)
    under [] is = none (λ m e. let l : 0 ≡ 1 = ap length (one_name p [] m (sym is ∙ e)) in absurd (omega arith))
    under (m ∷ []) is = so m is
    under (n ∷ k ∷ r) is = none (λ m e. let l : length (n ∷ k ∷ r) ≡ length (m ∷ []) = ap length (one_name p (n ∷ k ∷ r) m (sym is ∙ e)) in absurd (omega arith))

-- tests joined by `and`

both : (a b : Bool) → T a → T b → T (a && b)
both true b p q = q
both false b p q = p

pub left : (a b : Bool) → T (a && b) → T a
left true b p = tt
left false b p = p

pub right : (a b : Bool) → T (a && b) → T b
right true b p = p
right false b p = absurd p

-- byte order

abbrev child_list : Path → List (Path × Entry) → List (Name × Bool)
child_list p es = filter_map (child_of p) es

below-children : (p : Path) (n : Name) (es : List (Path × Entry)) → T (below_all path_cmp (p ++ n ∷ []) es) → T (below_all name_cmp n (child_list p es))
below-children p n [] h = tt
below-children p n (e ∷ es) h =
    let rest = below-children p n es (right _ _ h) in
    by_child p e.0 e.1 (λ o. T (below_all name_cmp n (cons_option o (child_list p es))))
    (λ m is. both _ _ (subst (λ o. T (is_lt o)) (ap (path_cmp (p ++ n ∷ [])) is ∙ path_cmp-children p n m) (left _ _ h)) rest)
    (λ none. rest)

sorted-children : (p : Path) (es : List (Path × Entry)) → T (is_sorted path_cmp es) → T (is_sorted name_cmp (child_list p es))
sorted-children p [] h = tt
sorted-children p (e ∷ es) h =
    let rest = sorted-children p es (right _ _ h) in
    by_child p e.0 e.1 (λ o. T (is_sorted name_cmp (cons_option o (child_list p es))))
    (λ m is. both _ _ (below-children p m es (subst (λ q. T (below_all path_cmp q es)) is (left _ _ h))) rest)
    (λ none. rest)

-- what a name has

option_map-cond : {A B : Type 0} (f : A → B) (b : Bool) (x : A) (y : Option A) → option_map f (cond b (Some x) y) ≡ cond b (Some (f x)) (option_map f y)
option_map-cond f true x y = refl
option_map-cond f false x y = refl

find-children : (p : Path) (n : Name) (es : List (Path × Entry)) → find name_cmp n (child_list p es) ≡ option_map is_dir (find path_cmp (p ++ n ∷ []) es)
find-children p n [] = refl
find-children p n (e ∷ es) =
    let rest = find-children p n es in
    by_child p e.0 e.1 (λ o. find name_cmp n (cons_option o (child_list p es)) ≡ option_map is_dir (cond (eq_by_cmp path_cmp (p ++ n ∷ []) e.0) (Some e.1) (find path_cmp (p ++ n ∷ []) es)))
    (λ m is. (λ i. cond (is_eq (sym (ap (path_cmp (p ++ n ∷ [])) is ∙ path_cmp-children p n m) i)) (Some (is_dir e.1)) (rest i)) ∙ sym (option_map-cond is_dir (eq_by_cmp path_cmp (p ++ n ∷ []) e.0) e.1 _))
    (λ none. rest ∙ sym (ap (option_map is_dir) (cond-false _ _ _ (sym (path_ties (p ++ n ∷ []) e.0) ∙ same_path-false (p ++ n ∷ []) e.0 (λ is. none n (sym is))))))

-- the entries of a directory as a finite map by their names
pub directory : Tree → Path → FinMap name_cmp Bool
directory t p = from_sorted (children t p)

pub children-sorted : (t : Tree) (p : Path) → T (is_sorted name_cmp (children t p))
children-sorted t p = sorted-children p (entries t) (entries_sorted t)

pub entries-directory : (t : Tree) (p : Path) → entries (directory t p) ≡ children t p
unfolding directory
entries-directory t p = entries-from_sorted name_cmp (children t p) (children-sorted t p)

pub get-directory : (t : Tree) (p : Path) (n : Name) → get (directory t p) n ≡ option_map is_dir (get t (p ++ n ∷ []))
unfolding directory
get-directory t p n = get-from_sorted name_cmp (children t p) n (children-sorted t p) ∙ find-children p n (entries t) ∙ ap (option_map is_dir) (sym (get-entries t (p ++ n ∷ [])))

pub len-directory : (t : Tree) (p : Path) → len (directory t p) ≡ entry_count t p
len-directory t p = len-entries (directory t p) ∙ ap length (entries-directory t p)

-- The law of listings.

less : (o : Ordering) → T (is_lt o) → o ≡ Less
less Less p = refl
less Equal p = absurd p
less Greater p = absurd p

pub equal : (o : Ordering) → is_eq o ≡ true → o ≡ Equal
equal Less e = absurd (true≢false (sym e))
equal Equal e = refl
equal Greater e = absurd (true≢false (sym e))

abbrev listed_names : List (Name × Bool) → List Name
listed_names es = map (λ e. e.0) es

below-each : (n : Name) (es : List (Name × Bool)) → T (below_all name_cmp n es) → AllByRecursion (λ m. name_cmp n m ≡ Less) (listed_names es)
below-each n [] h = tt
below-each n (e ∷ es) h = (less _ (left _ _ h), below-each n es (right _ _ h))

in-order : (es : List (Name × Bool)) → T (is_sorted name_cmp es) → IsStrictlySortedBy name_cmp (listed_names es)
unfolding IsStrictlySortedBy
in-order [] h = tt
in-order (e ∷ es) h = (below-each e.0 es (left _ _ h), in-order es (right _ _ h))

found-listed : (es : List (Name × Bool)) (n : Name) (b : Bool) → find name_cmp n es ≡ Some b → Contains es (n, b)
found-listed [] n b e = absurd (None≢Some e)
found-listed (e ∷ es) n b is = go (eq_by_cmp name_cmp n e.0) refl is (found-listed es n b)
  where
    go : (c : Bool) → eq_by_cmp name_cmp n e.0 ≡ c → cond c (Some e.1) (find name_cmp n es) ≡ Some b → (find name_cmp n es ≡ Some b → Contains es (n, b)) → Contains (e ∷ es) (n, b)
    go true same is rest = (0, omega arith, λ i. (sym (names_exact n e.0 (equal _ same)) i, same_Some is i))
    go false apart is rest = let there = rest is in (suc there.0, let l : there.0 < length es = there.1 in omega arith, there.2)

pub listed-above : (x n : Name) (b : Bool) (es : List (Name × Bool)) → T (below_all name_cmp x es) → find name_cmp n es ≡ Some b → name_cmp x n ≡ Less
listed-above x n b [] h is = absurd (None≢Some is)
listed-above x n b (e ∷ es) h is = go (eq_by_cmp name_cmp n e.0) refl is (listed-above x n b es (right _ _ h))
  where
    go : (c : Bool) → eq_by_cmp name_cmp n e.0 ≡ c → cond c (Some e.1) (find name_cmp n es) ≡ Some b → (find name_cmp n es ≡ Some b → name_cmp x n ≡ Less) → name_cmp x n ≡ Less
    go true same is rest = ap (name_cmp x) (names_exact n e.0 (equal _ same)) ∙ less _ (left _ _ h)
    go false apart is rest = rest is

listed-found : (es : List (Name × Bool)) (n : Name) (b : Bool) (i : ℕ) → T (is_sorted name_cmp es) → i < length es → get_or es i (n, b) ≡ (n, b) → find name_cmp n es ≡ Some b
listed-found [] n b i h l is = absurd (omega arith)
listed-found (e ∷ es) n b zero h l is =
    ap (λ c. cond c (Some e.1) (find name_cmp n es)) (ap (λ m. is_eq (name_cmp n m)) (ap (λ f. f.0) is) ∙ ap is_eq (tied_itself names_total n)) ∙ ap (λ f. Some f.1) is
listed-found (e ∷ es) n b (suc i) h l is =
    let rest = listed-found es n b i (right _ _ h) (omega arith) is in
    ap (λ c. cond c (Some e.1) (find name_cmp n es)) (ap is_eq (names_total.antisymm n e.0 ∙ ap ordering_reverse (listed-above e.0 n b es (left _ _ h) rest))) ∙ rest

pub listing_law : ListingLaw
listing_law = record {
  in_order = λ t p. in-order (children t p) (children-sorted t p);
  exact = λ t p n b.
      let what : find name_cmp n (children t p) ≡ option_map is_dir (get t (p ++ n ∷ [])) = find-children p n (entries t) ∙ ap (option_map is_dir) (sym (get-entries t (p ++ n ∷ []))) in
      (λ there. sym what ∙ listed-found (children t p) n b there.0 (children-sorted t p) there.1 there.2, λ is. found-listed (children t p) n b (what ∙ is));
}
