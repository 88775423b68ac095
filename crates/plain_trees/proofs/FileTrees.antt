-- A tree within the limits stays within them under put, remove and move.
use Rattle.std.proofs.Common.{◌≡◌, ◌≢◌, ℕ, ◌+◌, ◌<◌, ◌≤◌, Bool, true, false, cond, ◌||◌, Option, Some, None, List, [], ◌∷◌, ◌++◌, length, sym, ap, refl, ◌∙◌, subst, arith, IsSome, append_assoc, append-nil, inl, inr, ◌⊎◌}
use Rattle.std.proofs.lemmas.Bool.{true≢false, le-leb, ltb-false, leb-false, and_parts, and_from, or_parts}
use Rattle.std.proofs.lemmas.List.{length-append, same_from_push}
use Rattle.std.specs.Prelude.{nat_le, nat_lt}
use Rattle.std.specs.Option.{is_some, option_map_or}
use Rattle.std.specs.List.{list_all, list_any}
use Rattle.std.specs.Ordering.{eq_by_cmp}
use Rattle.std.specs.FinMap.{get, keys, contains_key-keys}
use Rattle.fs_types.specs.Names.{Name, Path, is_name, is_path, path_cmp}
use Rattle.plain_trees.specs.Contents.{Entry, IsTree, Apart, beneath, moved_at}
use Rattle.plain_trees.specs.Contents as plain
use Rattle.plain_trees.specs.Trees.{Tree, put, remove, move, entry_count, is_full, IsFileTree, is_too_deep}
use Rattle.fs_types.specs.declared.limits.TheConstants.{MAX_ENTRIES}
use Rattle.fs_types.proofs.Orders.{path_ties, same_path-is}
use Rattle.plain_trees.proofs.Beneath.{by_same, by_beneath, beneath-append, None≢Some, same_Some}
use Rattle.plain_trees.proofs.Edits.{get-put, get-removed, get-moved, move_law}
use Rattle.plain_trees.proofs.Shapes.{put-tree, remove-tree, move-tree, cut}
use Rattle.plain_trees.proofs.Lookups.{parent-push}
use Rattle.plain_trees.proofs.Counts.{Has, count-le, count-more, count-swap}

-- as functions
puts : (t : Tree) (p : Path) (x : Entry) → get (put t p x) ≡ plain.put (get t) p x
puts t p x = λ i q. get-put t p x q i

removes : (t : Tree) (p : Path) → get (remove t p) ≡ plain.remove (get t) p
removes t p = λ i q. get-removed t p q i

moves : (t : Tree) (old new : Path) → get (move t old new) ≡ plain.move (get t) old new
moves t old new = λ i q. get-moved t old new q i

-- what is at a path after a put is what was put, or was there
module _ (t : Tree) (p : Path) (x : Entry) where
  pub by_put : (q : Path) (P : Option Entry → Type 0) → (p ≡ q → P (Some x)) → (p ≢ q → P (get t q)) → P (get (put t p x) q)
  by_put q P here others = subst P (sym (get-put t p x q)) (by_same q p (λ b. P (cond b (Some x) (get t q))) (λ is. here (sym is)) (λ apart. others (λ is. apart (sym is))))

module _ (t : Tree) (p : Path) where
  pub by_remove : (q : Path) (P : Option Entry → Type 0) → (p ≡ q → P None) → (p ≢ q → P (get t q)) → P (get (remove t p) q)
  by_remove q P here others = subst P (sym (get-removed t p q)) (by_same q p (λ b. P (cond b None (get t q))) (λ is. here (sym is)) (λ apart. others (λ is. apart (sym is))))

-- what is at a path after a move
module _ (t : Tree) (old new : Path) where
  pub by_move : (q : Path) (P : Option Entry → Type 0) → ((r : Path) → q ≡ new ++ r → P (get t (old ++ r))) → (beneath new q ≡ None → (r : Path) → q ≡ old ++ r → P None) → (beneath new q ≡ None → beneath old q ≡ None → P (get t q)) → P (get (move t old new) q)
  by_move q P moved gone stays = subst P (sym (get-moved t old new q))
      (by_beneath new q (λ o. P (moved_at (get t) old o (beneath old q) q)) moved
      (λ none. by_beneath old q (λ o. P (moved_at (get t) old None o q)) (gone none) (stays none)))

-- paths that are put together

list_all-append : (p : Name → Bool) (xs ys : List Name) → list_all p xs ≡ true → list_all p ys ≡ true → list_all p (xs ++ ys) ≡ true
list_all-append p [] ys h k = k
list_all-append p (x ∷ xs) ys h k = let parts = and_parts (p x) (list_all p xs) h in and_from (p x) (list_all p (xs ++ ys)) parts.0 (list_all-append p xs ys parts.1 k)

list_all-rest : (p : Name → Bool) (xs ys : List Name) → list_all p (xs ++ ys) ≡ true → list_all p ys ≡ true
list_all-rest p [] ys h = h
list_all-rest p (x ∷ xs) ys h = list_all-rest p xs ys (and_parts (p x) (list_all p (xs ++ ys)) h).1

path-joined : (p q r : Path) → is_path p ≡ true → is_path (q ++ r) ≡ true → length p + length r ≤ 16 → is_path (p ++ r) ≡ true
path-joined p q r h k short =
    let names = list_all-append is_name p r (and_parts (list_all is_name p) (nat_le (length p) 16) h).0 (list_all-rest is_name q r (and_parts (list_all is_name (q ++ r)) (nat_le (length (q ++ r)) 16) k).0) in
    and_from (list_all is_name (p ++ r)) (nat_le (length (p ++ r)) 16) names (le-leb (length (p ++ r)) 16 (omega (arith, length-append p r)))

-- a test that no key passes
no-key : (test : Path → Bool) (ks : List Path) (q : Path) → list_any test ks ≡ false → list_any (eq_by_cmp path_cmp q) ks ≡ true → test q ≡ false
no-key test [] q none there = absurd (true≢false (sym there))
no-key test (k ∷ ks) q none there =
    let parts = or_parts (test k) (list_any test ks) none in
    go (eq_by_cmp path_cmp q k) refl there parts.0 (no-key test ks q parts.1)
  where
    go : (b : Bool) → eq_by_cmp path_cmp q k ≡ b → (b || list_any (eq_by_cmp path_cmp q) ks) ≡ true → test k ≡ false → (list_any (eq_by_cmp path_cmp q) ks ≡ true → test q ≡ false) → test q ≡ false
    go true e _ here rest = ap test (same_path-is q k (path_ties q k ∙ e)) ∙ here
    go false e there here rest = rest there

-- no path below `old` is too long at `new`
pub not-deep : (t : Tree) (old new r : Path) → is_too_deep t old new ≡ false → IsSome (get t (old ++ r)) → length new + length r ≤ 16
not-deep t old new r e there =
    let test : option_map_or (λ rest. nat_lt 16 (length new + length rest)) (beneath old (old ++ r)) false ≡ false = no-key (λ p. option_map_or (λ rest. nat_lt 16 (length new + length rest)) (beneath old p) false) (keys t) (old ++ r) e (sym (contains_key-keys t (old ++ r)) ∙ there) in
    ltb-false 16 (length new + length r) (sym (ap (λ o. option_map_or (λ rest. nat_lt 16 (length new + length rest)) o false) (beneath-append old r)) ∙ test)

-- room in a directory
has-room : (t : Tree) (p : Path) → is_full t p ≡ false → entry_count t p < MAX_ENTRIES
has-room t p e = leb-false MAX_ENTRIES (entry_count t p) e

pub put-file_tree : (t : Tree) (p : Path) (n : Name) (x : Entry) → IsFileTree t → is_path (p ++ n ∷ []) ≡ true → get t p ≡ Some Entry.Dir
    → ((m : Name) → IsSome (get t (p ++ n ∷ [] ++ m ∷ [])) → x ≡ Entry.Dir) → ((bytes : List ℕ) → x ≡ Entry.File bytes → length bytes ≤ 16777216)
    → IsSome (get t (p ++ n ∷ [])) ⊎ (is_full t p ≡ false) → IsFileTree (put t (p ++ n ∷ []) x)
put-file_tree t p n x tree path parent below short room = record {
  shape = subst IsTree (sym (puts t here x)) (put-tree (get t) here x tree.shape (omega (arith, length-append p (n ∷ []))) (ap (get t) (parent-push p n) ∙ parent) below);
  paths = λ q. by_put t here x q (λ o. IsSome o → is_path q ≡ true) (λ is _. ap is_path (sym is) ∙ path) (λ _. tree.paths q);
  entries = λ q. counted q (room);
  lengths = λ q bytes. by_put t here x q (λ o. o ≡ Some (Entry.File bytes) → length bytes ≤ 16777216) (λ _ e. short bytes (same_Some e)) (λ _. tree.lengths q bytes);
}
  where
    here : Path
    here = p ++ n ∷ []

    name-of : (q : Path) (m : Name) → here ≡ q ++ m ∷ [] → (p ≡ q) × (n ≡ m)
    name-of q m is = same_from_push p q n m is

    counted : (q : Path) → IsSome (get t here) ⊎ (is_full t p ≡ false) → entry_count (put t here x) q ≤ MAX_ENTRIES
    counted q (inl there) =
        let few : entry_count (put t here x) q ≤ entry_count t q = count-le (put t here x) t q q (λ m. by_put t here x (q ++ m ∷ []) (λ o. IsSome o → Has t q m) (λ is _. subst (λ r. IsSome (get t r)) is there) (λ _ h. h)) in
        let l : entry_count t q ≤ MAX_ENTRIES = tree.entries q in
        omega arith
    counted q (inr free) = by_same p q (λ _. entry_count (put t here x) q ≤ MAX_ENTRIES)
        (λ is.
        let more : entry_count (put t here x) q ≤ entry_count t q + 1 = count-more (put t here x) t q q n (λ m. by_put t here x (q ++ m ∷ []) (λ o. IsSome o → (m ≡ n) ⊎ Has t q m) (λ same _. inl (sym (name-of q m same).1)) (λ _ h. inr h)) in
        let l : entry_count t p < MAX_ENTRIES = has-room t p free in
        let same : entry_count t p ≡ entry_count t q = ap (entry_count t) is in
        omega arith)
        (λ apart.
        let few : entry_count (put t here x) q ≤ entry_count t q = count-le (put t here x) t q q (λ m. by_put t here x (q ++ m ∷ []) (λ o. IsSome o → Has t q m) (λ same _. absurd (apart (name-of q m same).0)) (λ _ h. h)) in
        let l : entry_count t q ≤ MAX_ENTRIES = tree.entries q in
        omega arith)

pub remove-file_tree : (t : Tree) (p : Path) → IsFileTree t → 0 < length p → ((n : Name) → get t (p ++ n ∷ []) ≡ None) → IsFileTree (remove t p)
remove-file_tree t p tree long empty = record {
  shape = subst IsTree (sym (removes t p)) (remove-tree (get t) p tree.shape long empty);
  paths = λ q. by_remove t p q (λ o. IsSome o → is_path q ≡ true) (λ _ h. absurd (true≢false (sym h))) (λ _. tree.paths q);
  entries = λ q.
      let few : entry_count (remove t p) q ≤ entry_count t q = count-le (remove t p) t q q (λ m. by_remove t p (q ++ m ∷ []) (λ o. IsSome o → Has t q m) (λ _ h. absurd (true≢false (sym h))) (λ _ h. h)) in
      let l : entry_count t q ≤ MAX_ENTRIES = tree.entries q in
      omega arith;
  lengths = λ q bytes. by_remove t p q (λ o. o ≡ Some (Entry.File bytes) → length bytes ≤ 16777216) (λ _ e. absurd (None≢Some e)) (λ _. tree.lengths q bytes);
}

-- where there is room for a new name: it was there, or the old one stood beside it, or the directory was not full
pub data Room (t : Tree) (p q : Path) (k : Name) : Type 0 where
  Replaced : IsSome (get t (q ++ k ∷ [])) → Room t p q k
  Beside : p ≡ q → Room t p q k
  Free : is_full t q ≡ false → Room t p q k

module _ (t : Tree) (p q : Path) (j k : Name) (tree : IsFileTree t) (apart : Apart (p ++ j ∷ []) (q ++ k ∷ [])) (there : IsSome (get t (p ++ j ∷ []))) where
  abbrev old : Path
  old = p ++ j ∷ []

  abbrev new : Path
  new = q ++ k ∷ []

  abbrev left : Tree
  left = move t old new

  -- an entry of a directory that is not below `new`: the new name, or one that stays
  entry-of : (d : Path) (n : Name) → beneath new d ≡ None → Has left d n → (d ++ n ∷ [] ≡ new) ⊎ ((d ++ n ∷ [] ≢ old) × Has t d n)
  entry-of d n none = by_move t old new (d ++ n ∷ []) (λ o. IsSome o → (d ++ n ∷ [] ≡ new) ⊎ ((d ++ n ∷ [] ≢ old) × Has t d n))
      (λ r is _. inl (at-new r is (cut new d r n is)))
      (λ _ r _ h. absurd (true≢false (sym h)))
      (λ _ none' h. inr ((λ is. None≢Some (sym none' ∙ ap (beneath old) (is ∙ sym (append-nil old)) ∙ beneath-append old [])), h))
    where
      at-new : (r : Path) → d ++ n ∷ [] ≡ new ++ r → (d ++ n ∷ [] ≡ new) ⊎ ((s : Path) × (r ≡ s ++ n ∷ []) × (d ≡ new ++ s)) → d ++ n ∷ [] ≡ new
      at-new r is (inl e) = e
      at-new r is (inr f) = absurd (None≢Some (sym none ∙ ap (beneath new) f.2 ∙ beneath-append new f.0))

  named-new : (d : Path) (n : Name) → d ++ n ∷ [] ≡ new → (d ≡ q) × (n ≡ k)
  named-new d n is = same_from_push d q n k is

  -- no more entries than a directory had
  kept : (d e : Path) → ((n : Name) → Has left d n → Has t e n) → entry_count left d ≤ MAX_ENTRIES
  kept d e among =
      let few : entry_count left d ≤ entry_count t e = count-le left t d e among in
      let l : entry_count t e ≤ MAX_ENTRIES = tree.entries e in
      omega arith

  below-new : (d s : Path) → d ≡ new ++ s → entry_count left d ≤ MAX_ENTRIES
  below-new d s is = kept d (old ++ s) (λ n h. subst IsSome (ap (λ r. get left (r ++ n ∷ [])) is ∙ ap (get left) (append_assoc new s (n ∷ [])) ∙ move_law.moved t old new (s ++ n ∷ []) apart ∙ ap (get t) (sym (append_assoc old s (n ∷ [])))) h)

  below-old : (d s : Path) → d ≡ old ++ s → entry_count left d ≤ MAX_ENTRIES
  below-old d s is = kept d d (λ n h. absurd (true≢false (sym h ∙ ap is_some (ap (λ r. get left (r ++ n ∷ [])) is ∙ ap (get left) (append_assoc old s (n ∷ [])) ∙ move_law.gone t old new (s ++ n ∷ []) apart))))

  elsewhere : (d : Path) → beneath new d ≡ None → Room t p q k → entry_count left d ≤ MAX_ENTRIES
  elsewhere d none (Replaced here) = kept d d (λ n h. stays n (entry-of d n none h))
    where
      stays : (n : Name) → (d ++ n ∷ [] ≡ new) ⊎ ((d ++ n ∷ [] ≢ old) × Has t d n) → Has t d n
      stays n (inl is) = subst (λ r. IsSome (get t r)) (sym is) here
      stays n (inr f) = f.1
  elsewhere d none (Beside same) = by_same q d (λ _. entry_count left d ≤ MAX_ENTRIES)
      (λ is.
      let few : entry_count left d ≤ entry_count t d = count-swap left t d d j k (subst (λ r. IsSome (get t (r ++ j ∷ []))) (same ∙ is) there) (λ n h. swapped is n (entry-of d n none h)) in
      let l : entry_count t d ≤ MAX_ENTRIES = tree.entries d in
      omega arith)
      (λ other. kept d d (λ n h. stays other n (entry-of d n none h)))
    where
      swapped : (is : q ≡ d) (n : Name) → (d ++ n ∷ [] ≡ new) ⊎ ((d ++ n ∷ [] ≢ old) × Has t d n) → (n ≡ k) ⊎ ((n ≢ j) × Has t d n)
      swapped is n (inl e) = inl (named-new d n e).1
      swapped is n (inr f) = inr ((λ e. f.0 (ap (λ m. d ++ m ∷ []) e ∙ ap (λ r. r ++ j ∷ []) (sym (same ∙ is)))), f.1)

      stays : (q ≢ d) → (n : Name) → (d ++ n ∷ [] ≡ new) ⊎ ((d ++ n ∷ [] ≢ old) × Has t d n) → Has t d n
      stays other n (inl e) = absurd (other (sym (named-new d n e).0))
      stays other n (inr f) = f.1
  elsewhere d none (Free free) = by_same q d (λ _. entry_count left d ≤ MAX_ENTRIES)
      (λ is.
      let more : entry_count left d ≤ entry_count t d + 1 = count-more left t d d k (λ n h. added n (entry-of d n none h)) in
      let l : entry_count t q < MAX_ENTRIES = has-room t q free in
      let e : entry_count t q ≡ entry_count t d = ap (entry_count t) is in
      omega arith)
      (λ other. kept d d (λ n h. stays other n (entry-of d n none h)))
    where
      added : (n : Name) → (d ++ n ∷ [] ≡ new) ⊎ ((d ++ n ∷ [] ≢ old) × Has t d n) → (n ≡ k) ⊎ Has t d n
      added n (inl e) = inl (named-new d n e).1
      added n (inr f) = inr f.1

      stays : (q ≢ d) → (n : Name) → (d ++ n ∷ [] ≡ new) ⊎ ((d ++ n ∷ [] ≢ old) × Has t d n) → Has t d n
      stays other n (inl e) = absurd (other (sym (named-new d n e).0))
      stays other n (inr f) = f.1

  pub move-file_tree : is_path (q ++ k ∷ []) ≡ true → get t q ≡ Some Entry.Dir → is_too_deep t (p ++ j ∷ []) (q ++ k ∷ []) ≡ false → Room t p q k → IsFileTree (move t (p ++ j ∷ []) (q ++ k ∷ []))
  move-file_tree path parent deep room = record {
    shape = subst IsTree (sym (moves t old new)) (move-tree (get t) old new tree.shape apart (ap (get t) (parent-push q k) ∙ parent));
    paths = λ d. by_move t old new d (λ o. IsSome o → is_path d ≡ true)
        (λ r is h. ap is_path is ∙ path-joined new old r path (tree.paths (old ++ r) h) (not-deep t old new r deep h))
        (λ _ r _ h. absurd (true≢false (sym h)))
        (λ _ _. tree.paths d);
    entries = λ d. by_beneath new d (λ o. beneath new d ≡ o → entry_count left d ≤ MAX_ENTRIES) (λ s is _. below-new d s is)
        (λ none _. by_beneath old d (λ _. entry_count left d ≤ MAX_ENTRIES) (λ s is. below-old d s is) (λ _. elsewhere d none room)) refl;
    lengths = λ d bytes. by_move t old new d (λ o. o ≡ Some (Entry.File bytes) → length bytes ≤ 16777216)
        (λ r _. tree.lengths (old ++ r) bytes)
        (λ _ r _ e. absurd (None≢Some e))
        (λ _ _. tree.lengths d bytes);
  }
