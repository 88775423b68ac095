-- What the edits of a tree, as a finite map, have at each path.
use Rattle.std.proofs.Common.{◌≡◌, Bool, true, false, cond, ◌&&◌, Option, Some, None, List, [], ◌∷◌, ◌++◌, filter_map, sym, ap, refl, ◌∙◌}
use Rattle.std.proofs.lemmas.Bool.{cond-false, true≢false}
use Rattle.std.specs.Option.{is_some}
use Rattle.std.specs.List.{cons_option}
use Rattle.std.specs.Ordering.{eq_by_cmp}
use Rattle.std.specs.FinMap.{get, entries, empty, find, get-entries, get-empty, get-insert, get-remove, get-from_entries, same_map}
use Rattle.fs_types.specs.Names.{Path, same_name, same_path, path_cmp}
use Rattle.plain_trees.specs.Laws.{PutLaw, RemoveLaw, MoveLaw, SameTreeLaw}
use Rattle.plain_trees.specs.Contents.{Entry, beneath, begins, moved_at}
use Rattle.plain_trees.specs.Contents as plain
use Rattle.plain_trees.specs.Trees.{Tree, bare, put, remove, move, moved_entry, moved_to}
use Rattle.fs_types.proofs.Orders.{paths_total, paths_exact, path_ties, same_path-own, same_name-own, same_name-is}
use Rattle.plain_trees.proofs.Beneath.{by_beneath, beneath-append, begins-false, None≢Some, same_path-false}

pub get-put : (t : Tree) (p : Path) (x : Entry) (q : Path) → get (put t p x) q ≡ plain.put (get t) p x q
get-put t p x q = get-insert paths_total t p x q ∙ ap (λ b. cond b (Some x) (get t q)) (sym (path_ties q p))

pub get-removed : (t : Tree) (p q : Path) → get (remove t p) q ≡ plain.remove (get t) p q
get-removed t p q = get-remove paths_total t p q ∙ ap (λ b. cond b None (get t q)) (sym (path_ties q p))

pub get-bare : (q : Path) → get bare q ≡ plain.leaf Entry.Dir q
get-bare [] = get-insert paths_total empty [] Entry.Dir []
get-bare (n ∷ q) = get-insert paths_total empty [] Entry.Dir (n ∷ q) ∙ get-empty path_cmp (n ∷ q)

-- the first entry of a path
abbrev first : Path → List (Path × Entry) → Option Entry
first q es = find path_cmp q es

at_key : (q p : Path) (x : Entry) (es : List (Path × Entry)) → first q ((p, x) ∷ es) ≡ cond (same_path q p) (Some x) (first q es)
at_key q p x es = ap (λ b. cond b (Some x) (first q es)) (sym (path_ties q p))

-- a path that goes on from another, and one that does not
off : (a r p : Path) → beneath a p ≡ None → same_path (a ++ r) p ≡ false
off a r p none = same_path-false (a ++ r) p (λ is. None≢Some (sym none ∙ ap (beneath a) (sym is) ∙ beneath-append a r))

off_back : (a r p : Path) → beneath a p ≡ None → same_path p (a ++ r) ≡ false
off_back a r p none = same_path-false p (a ++ r) (λ is. None≢Some (sym none ∙ ap (beneath a) is ∙ beneath-append a r))

same_path-append : (p a b : Path) → same_path (p ++ a) (p ++ b) ≡ same_path a b
same_path-append [] a b = refl
same_path-append (n ∷ p) a b = ap (λ c. c && same_path (p ++ a) (p ++ b)) (same_name-own n) ∙ same_path-append p a b

module _ (old new : Path) where
  abbrev after_move : List (Path × Entry) → List (Path × Entry)
  after_move es = filter_map (moved_entry old new) es

  -- one more entry, looked for at a path that goes on from `new`
  at_new : (p : Path) (x : Entry) (es : List (Path × Entry)) (r : Path) → first (new ++ r) (after_move es) ≡ first (old ++ r) es → first (new ++ r) (after_move ((p, x) ∷ es)) ≡ first (old ++ r) ((p, x) ∷ es)
  at_new p x es r rest = by_beneath old p (λ o. first (new ++ r) (cons_option (moved_to new o (beneath new p) (p, x)) (after_move es)) ≡ first (old ++ r) ((p, x) ∷ es))
      (λ s is. at_key (new ++ r) (new ++ s) x (after_move es) ∙ (λ i. cond ((same_path-append new r s ∙ sym (same_path-append old r s) ∙ ap (same_path (old ++ r)) (sym is)) i) (Some x) (rest i)) ∙ sym (at_key (old ++ r) p x es))
      (λ none. by_beneath new p (λ o. first (new ++ r) (cons_option (moved_to new None o (p, x)) (after_move es)) ≡ first (old ++ r) ((p, x) ∷ es))
      (λ s is. rest ∙ sym (at_key (old ++ r) p x es ∙ cond-false _ _ _ (off old r p none)))
      (λ none'. at_key (new ++ r) p x (after_move es) ∙ cond-false _ _ _ (off new r p none') ∙ rest ∙ sym (at_key (old ++ r) p x es ∙ cond-false _ _ _ (off old r p none))))

  -- at one that goes on from `old` and not from `new`
  at_old : (p : Path) (x : Entry) (es : List (Path × Entry)) (r : Path) → beneath new (old ++ r) ≡ None → first (old ++ r) (after_move es) ≡ None → first (old ++ r) (after_move ((p, x) ∷ es)) ≡ None
  at_old p x es r apart rest = by_beneath old p (λ o. first (old ++ r) (cons_option (moved_to new o (beneath new p) (p, x)) (after_move es)) ≡ None)
      (λ s is. at_key (old ++ r) (new ++ s) x (after_move es) ∙ cond-false _ _ _ (off_back new s (old ++ r) apart) ∙ rest)
      (λ none. by_beneath new p (λ o. first (old ++ r) (cons_option (moved_to new None o (p, x)) (after_move es)) ≡ None)
      (λ s is. rest)
      (λ none'. at_key (old ++ r) p x (after_move es) ∙ cond-false _ _ _ (off old r p none) ∙ rest))

  -- and at any other
  at_other : (p : Path) (x : Entry) (es : List (Path × Entry)) (q : Path) → beneath new q ≡ None → beneath old q ≡ None → first q (after_move es) ≡ first q es → first q (after_move ((p, x) ∷ es)) ≡ first q ((p, x) ∷ es)
  at_other p x es q apart apart' rest = by_beneath old p (λ o. first q (cons_option (moved_to new o (beneath new p) (p, x)) (after_move es)) ≡ first q ((p, x) ∷ es))
      (λ s is. at_key q (new ++ s) x (after_move es) ∙ cond-false _ _ _ (off_back new s q apart) ∙ rest ∙ sym (at_key q p x es ∙ cond-false _ _ _ (ap (same_path q) is ∙ off_back old s q apart')))
      (λ none. by_beneath new p (λ o. first q (cons_option (moved_to new None o (p, x)) (after_move es)) ≡ first q ((p, x) ∷ es))
      (λ s is. rest ∙ sym (at_key q p x es ∙ cond-false _ _ _ (ap (same_path q) is ∙ off_back new s q apart)))
      (λ none'. ap (cond (eq_by_cmp path_cmp q p) (Some x)) rest))

  from_new : (es : List (Path × Entry)) (r : Path) → first (new ++ r) (after_move es) ≡ first (old ++ r) es
  from_new [] r = refl
  from_new (e ∷ es) r = at_new e.0 e.1 es r (from_new es r)

  from_old : (es : List (Path × Entry)) (r : Path) → beneath new (old ++ r) ≡ None → first (old ++ r) (after_move es) ≡ None
  from_old [] r apart = refl
  from_old (e ∷ es) r apart = at_old e.0 e.1 es r apart (from_old es r apart)

  from_other : (es : List (Path × Entry)) (q : Path) → beneath new q ≡ None → beneath old q ≡ None → first q (after_move es) ≡ first q es
  from_other [] q apart apart' = refl
  from_other (e ∷ es) q apart apart' = at_other e.0 e.1 es q apart apart' (from_other es q apart apart')

pub get-moved : (t : Tree) (old new q : Path) → get (move t old new) q ≡ plain.move (get t) old new q
get-moved t old new q = get-from_entries paths_total (filter_map (moved_entry old new) (entries t)) q
    ∙ by_beneath new q (λ o. first q (after_move old new (entries t)) ≡ moved_at (get t) old o (beneath old q) q)
    (λ r is. ap (λ p. first p (after_move old new (entries t))) is ∙ from_new old new (entries t) r ∙ sym (get-entries t (old ++ r)))
    (λ none. by_beneath old q (λ o. first q (after_move old new (entries t)) ≡ moved_at (get t) old None o q)
    (λ r is. ap (λ p. first p (after_move old new (entries t))) is ∙ from_old old new (entries t) r (ap (beneath new) (sym is) ∙ none))
    (λ none'. from_other old new (entries t) q none none' ∙ sym (get-entries t q)))

-- The laws of the edits.

pub put_law : PutLaw
put_law = record {
  here = λ t p x. get-put t p x p ∙ ap (λ b. cond b (Some x) (get t p)) (same_path-own p);
  others = λ t p q x apart. get-put t p x q ∙ ap (λ b. cond b (Some x) (get t q)) (same_path-false q p apart);
}

pub remove_law : RemoveLaw
remove_law = record {
  here = λ t p. get-removed t p p ∙ ap (λ b. cond b None (get t p)) (same_path-own p);
  others = λ t p q apart. get-removed t p q ∙ ap (λ b. cond b None (get t q)) (same_path-false q p apart);
}

-- neither path begins the other, so what goes on from one does not go on from the other
pub beneath-apart : (p q r : Path) → begins p q ≡ false → begins q p ≡ false → beneath p (q ++ r) ≡ None
beneath-apart [] q r a b = absurd (true≢false a)
beneath-apart (n ∷ p) [] r a b = absurd (true≢false b)
beneath-apart (n ∷ p) (m ∷ q) r a b = go (same_name n m) refl a b (beneath-apart p q r)
  where
    go : (c : Bool) → same_name n m ≡ c → is_some (cond c (beneath p q) None) ≡ false → is_some (cond (same_name m n) (beneath q p) None) ≡ false → (begins p q ≡ false → begins q p ≡ false → beneath p (q ++ r) ≡ None) → cond c (beneath p (q ++ r)) None ≡ None
    go false same a b rest = refl
    go true same a b rest = rest a (ap (λ c. is_some (cond c (beneath q p) None)) (sym (same_name-own m) ∙ ap (same_name m) (sym (same_name-is n m same))) ∙ b)

pub move_law : MoveLaw
move_law = record {
  moved = λ t old new rest apart. get-moved t old new (new ++ rest) ∙ ap (λ o. moved_at (get t) old o (beneath old (new ++ rest)) (new ++ rest)) (beneath-append new rest);
  gone = λ t old new rest apart. get-moved t old new (old ++ rest)
      ∙ (λ i. moved_at (get t) old (beneath-apart new old rest apart.1 apart.0 i) (beneath-append old rest i) (old ++ rest));
  others = λ t old new q a b. get-moved t old new q ∙ (λ i. moved_at (get t) old (begins-false new q b i) (begins-false old q a i) q);
}

pub same_tree : SameTreeLaw
same_tree t s is = same_map paths_total paths_exact t s is
