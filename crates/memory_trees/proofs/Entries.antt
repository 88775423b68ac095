-- Trees as the maps that lists of entries make.
use Rattle.std.proofs.Common.{◌≡◌, Bool, cond, length, suc, List, [], ◌∷◌, ◌++◌, refl, sym, ◌∙◌, ap}
use Rattle.std.specs.Prelude.{Option, Some, None, is_some, filter_map, count_by}
use Rattle.std.specs.List.{cons_option, filter, list_any}
use Rattle.std.specs.Cmp.{IsTotalOrder, eq_by_cmp_equiv}
use Rattle.std.specs.List.Sorted.{IsStrictlySortedBy}
use Rattle.std.specs.Map.{lookup, keys_of}
use Rattle.std.specs.BTreeMap.{is_at}
use Rattle.std.specs.FinMap.{IsAntisymmetric, nat_cmp-IsAntisymmetric, slice_cmp-IsAntisymmetric, from_entries, find, put, get, insert, remove, entries, empty, entries-insert, get-from_entries, get-insert, get-remove, same_map, len-entries, len-empty}
use Rattle.std.proofs.lemmas.List.{nil_from_length}
use Rattle.std.proofs.lemmas.List.Sums.{length-filter}
use Rattle.std.specs.declared.cmp.Ordering.TheVariants.{Less}
use Rattle.std.proofs.lemmas.Cmp.{lists_total, nat_list_cmp_total}
use Rattle.std.proofs.lemmas.Map.Keys.{sorted_head, sorted_tail}
use Rattle.fs_types.specs.Names.{Name, Path, path_cmp}
use Rattle.plain_trees.specs.Contents.{Entry, beneath}
use Rattle.plain_trees.specs.Trees.{Tree, child_of, children, named, move, moved_entry, is_too_deep}
use Rattle.memory_trees.specs.Paths.{is_child, is_deep, only_name}
use Rattle.memory_trees.specs.Maps.{insert_all}

pub paths_total : IsTotalOrder path_cmp
paths_total = lists_total nat_list_cmp_total

-- paths that compare alike are one
pub exact_paths : IsAntisymmetric path_cmp
exact_paths = slice_cmp-IsAntisymmetric (slice_cmp-IsAntisymmetric nat_cmp-IsAntisymmetric)

find_lookup : (es : List (Path × Entry)) (q : Path) → find path_cmp q es ≡ lookup (is_at (path_cmp q)) es
find_lookup [] q = refl
find_lookup (e ∷ es) q = ap (cond (is_at (path_cmp q) e.0) (Some e.1)) (find_lookup es q)

-- what stands at a path
pub get_made : (es : List (Path × Entry)) (q : Path) → get (from_entries {R = path_cmp} es) q ≡ lookup (is_at (path_cmp q)) es
get_made es q = get-from_entries paths_total es q ∙ find_lookup es q

-- an entry below all others comes first
put_first : (e : Path × Entry) (es : List (Path × Entry)) → IsStrictlySortedBy path_cmp (keys_of (e ∷ es)) → put path_cmp e.0 e.1 es ≡ e ∷ es
put_first e [] h = refl
put_first e (f ∷ es) h = let less : path_cmp e.0 f.0 ≡ Less = (sorted_head path_cmp e.0 (keys_of (f ∷ es)) h).0 in rw less refl

empty_of_no_entries : entries (empty {K = Path} {X = Entry} {R = path_cmp}) ≡ []
empty_of_no_entries = nil_from_length _ (sym (len-entries (empty {K = Path} {X = Entry} {R = path_cmp})) ∙ len-empty path_cmp Entry)

-- entries in order are those of the map that they make
pub entries_made : (es : List (Path × Entry)) → IsStrictlySortedBy path_cmp (keys_of es) → entries (from_entries {R = path_cmp} es) ≡ es
entries_made [] h = empty_of_no_entries
entries_made (e ∷ es) h =
    entries-insert paths_total (from_entries es) e.0 e.1
    ∙ ap (put path_cmp e.0 e.1) (entries_made es (sorted_tail path_cmp e.0 (keys_of es) h))
    ∙ put_first e es h

-- entries that differ at one path make trees that differ there
pub put_made : (es fs : List (Path × Entry)) (p : Path) (x : Entry) → ((q : Path) → lookup (is_at (path_cmp q)) fs ≡ cond (is_at (path_cmp p) q) (Some x) (lookup (is_at (path_cmp q)) es)) → from_entries {R = path_cmp} fs ≡ insert (from_entries es) p x
put_made es fs p x h = same_map paths_total exact_paths _ _ (λ q.
    get_made fs q ∙ h q ∙ ap (λ b. cond b (Some x) (lookup (is_at (path_cmp q)) es)) ((eq_by_cmp_equiv paths_total).symm p q)
    ∙ sym (get-insert paths_total (from_entries es) p x q ∙ ap (cond (is_at (path_cmp q) p) (Some x)) (get_made es q)))

pub remove_made : (es fs : List (Path × Entry)) (p : Path) → ((q : Path) → lookup (is_at (path_cmp q)) fs ≡ cond (is_at (path_cmp p) q) None (lookup (is_at (path_cmp q)) es)) → from_entries {R = path_cmp} fs ≡ remove (from_entries es) p
remove_made es fs p h = same_map paths_total exact_paths _ _ (λ q.
    get_made fs q ∙ h q ∙ ap (λ b. cond b None (lookup (is_at (path_cmp q)) es)) ((eq_by_cmp_equiv paths_total).symm p q)
    ∙ sym (get-remove paths_total (from_entries es) p q ∙ ap (cond (is_at (path_cmp q) p) None) (get_made es q)))

-- the last entry goes in first
pub insert_all-push : (es : List (Path × Entry)) (e : Path × Entry) (t : Tree) → insert_all (es ++ e ∷ []) t ≡ insert_all es (insert t e.0 e.1)
insert_all-push [] e t = refl
insert_all-push (f ∷ es) e t = ap (λ u. insert u f.0 f.1) (insert_all-push es e t)

pub insert_all-empty : (es : List (Path × Entry)) → insert_all es (from_entries {R = path_cmp} []) ≡ from_entries es
insert_all-empty [] = refl
insert_all-empty (e ∷ es) = ap (λ u. insert u e.0 e.1) (insert_all-empty es)

-- an entry is a child where its path is one
child_counts : (rest : Option Path) (x : Entry) (xs : List (Name × Bool)) (q : Path) (qs : List Path) → length xs ≡ length qs → length (cons_option (named rest x) xs) ≡ length (cond (is_some (only_name rest)) (q ∷ qs) qs)
child_counts None x xs q qs e = e
child_counts (Some []) x xs q qs e = e
child_counts (Some (n ∷ [])) x xs q qs e = ap suc e
child_counts (Some (n ∷ m ∷ rest)) x xs q qs e = e

children_filtered : (p : Path) (es : List (Path × Entry)) → length (filter_map (child_of p) es) ≡ length (filter (is_child p) (keys_of es))
children_filtered p [] = refl
children_filtered p (e ∷ es) = child_counts (beneath p e.0) e.1 _ e.0 _ (children_filtered p es)

-- so many children as paths right below
pub count_of_children : (p : Path) (es : List (Path × Entry)) → length (filter_map (child_of p) es) ≡ count_by (is_child p) (keys_of es)
count_of_children p es = children_filtered p es ∙ length-filter (is_child p) (keys_of es)

-- the same of the tree that entries in order make
pub children_made : (es : List (Path × Entry)) (t : Tree) → IsStrictlySortedBy path_cmp (keys_of es) → from_entries {R = path_cmp} es ≡ t → (p : Path) → children t p ≡ filter_map (child_of p) es
children_made es t h e p = ap (λ u. children u p) (sym e) ∙ ap (filter_map (child_of p)) (entries_made es h)

pub deep_made : (es : List (Path × Entry)) (t : Tree) → IsStrictlySortedBy path_cmp (keys_of es) → from_entries {R = path_cmp} es ≡ t → (old new : Path) → is_too_deep t old new ≡ list_any (is_deep old (length new)) (keys_of es)
deep_made es t h e old new = ap (λ u. is_too_deep u old new) (sym e) ∙ ap (λ fs. list_any (is_deep old (length new)) (keys_of fs)) (entries_made es h)

pub move_made : (es : List (Path × Entry)) (t : Tree) → IsStrictlySortedBy path_cmp (keys_of es) → from_entries {R = path_cmp} es ≡ t → (old new : Path) → move t old new ≡ from_entries (filter_map (moved_entry old new) es)
move_made es t h e old new = ap (λ u. move u old new) (sym e) ∙ ap (λ fs. from_entries {R = path_cmp} (filter_map (moved_entry old new) fs)) (entries_made es h)
