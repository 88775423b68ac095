-- A tree stays one under put, remove and move.
use Rattle.std.proofs.Common.{◌≡◌, ◌≢◌, ◌<◌, cond, Some, None, [], ◌∷◌, ◌++◌, length, sym, ap, refl, ◌∙◌, subst, arith, IsSome, append_assoc, append-nil, inl, inr, ◌⊎◌}
use Rattle.std.proofs.lemmas.Bool.{true≢false}
use Rattle.std.proofs.lemmas.List.{length-append, same_from_push}
use Rattle.std.specs.Option.{is_some}
use Rattle.fs_types.specs.Names.{Name, Path}
use Rattle.plain_trees.specs.Contents.{Entry, Contents, IsTree, Apart, begins, beneath, parent_of, put, remove, move, moved_at}
use Rattle.plain_trees.specs.Laws.{ShapeLaw}
use Rattle.plain_trees.proofs.Beneath.{by_same, by_beneath, beneath-append, None≢Some, same_path-false}
use Rattle.plain_trees.proofs.Edits.{beneath-apart}
use Rattle.plain_trees.proofs.Lookups.{parent-push}

longer : (q : Path) (n : Name) → q ≢ q ++ n ∷ []
longer q n e = let l : length q ≡ length (q ++ n ∷ []) = ap length e in omega (arith, length-append q (n ∷ []))

nonempty : (p : Path) → 0 < length p → [] ≢ p
nonempty p h e = let l : 0 ≡ length p = ap length e in omega arith

pub put-tree : (t : Contents) (p : Path) (x : Entry) → IsTree t → 0 < length p → t (parent_of p) ≡ Some Entry.Dir → ((n : Name) → IsSome (t (p ++ n ∷ [])) → x ≡ Entry.Dir) → IsTree (put t p x)
put-tree t p x tree long parent below = record {
  root = ap (λ b. cond b (Some x) (t [])) (same_path-false [] p (nonempty p long)) ∙ tree.root;
  parents = λ q n. by_same (q ++ n ∷ []) p (λ b. IsSome (cond b (Some x) (t (q ++ n ∷ []))) → put t p x q ≡ Some Entry.Dir)
      (λ is _. ap (λ b. cond b (Some x) (t q)) (same_path-false q p (λ e. longer q n (e ∙ sym is))) ∙ ap t (sym (parent-push q n) ∙ ap parent_of is) ∙ parent)
      (λ apart there. by_same q p (λ b. cond b (Some x) (t q) ≡ Some Entry.Dir) (λ is. ap Some (below n (subst (λ r. IsSome (t (r ++ n ∷ []))) is there))) (λ _. tree.parents q n there));
}

pub remove-tree : (t : Contents) (p : Path) → IsTree t → 0 < length p → ((n : Name) → t (p ++ n ∷ []) ≡ None) → IsTree (remove t p)
remove-tree t p tree long empty = record {
  root = ap (λ b. cond b None (t [])) (same_path-false [] p (nonempty p long)) ∙ tree.root;
  parents = λ q n. by_same (q ++ n ∷ []) p (λ b. IsSome (cond b None (t (q ++ n ∷ []))) → remove t p q ≡ Some Entry.Dir)
      (λ is there. absurd (true≢false (sym there)))
      (λ apart there. by_same q p (λ b. cond b None (t q) ≡ Some Entry.Dir)
      (λ is. absurd (true≢false (sym there ∙ ap (λ r. is_some (t (r ++ n ∷ []))) is ∙ ap is_some (empty n))))
      (λ _. tree.parents q n there));
}

-- a path is the root or has a last name
pub last_name : (r : Path) → (r ≡ []) ⊎ ((s : Path) × (n : Name) × (r ≡ s ++ n ∷ []))
last_name [] = inl refl
last_name (m ∷ r) = go (last_name r)
  where
    go : (r ≡ []) ⊎ ((s : Path) × (n : Name) × (r ≡ s ++ n ∷ [])) → (m ∷ r ≡ []) ⊎ ((s : Path) × (n : Name) × (m ∷ r ≡ s ++ n ∷ []))
    go (inl e) = inr ([], m, λ i. m ∷ e i)
    go (inr f) = inr (m ∷ f.0, f.1, λ i. m ∷ f.2 i)

-- a path with one name more goes on from p: it is p, or the path did
pub cut : (p q r : Path) (n : Name) → q ++ n ∷ [] ≡ p ++ r → (q ++ n ∷ [] ≡ p) ⊎ ((s : Path) × (r ≡ s ++ n ∷ []) × (q ≡ p ++ s))
cut p q r n e = go (last_name r)
  where
    go : (r ≡ []) ⊎ ((s : Path) × (m : Name) × (r ≡ s ++ m ∷ [])) → (q ++ n ∷ [] ≡ p) ⊎ ((s : Path) × (r ≡ s ++ n ∷ []) × (q ≡ p ++ s))
    go (inl none) = inl (e ∙ ap (λ r. p ++ r) none ∙ append-nil p)
    go (inr f) =
        let both : (q ≡ p ++ f.0) × (n ≡ f.1) = same_from_push q (p ++ f.0) n f.1 (e ∙ ap (λ r. p ++ r) f.2 ∙ sym (append_assoc p f.0 (f.1 ∷ []))) in
        inr (f.0, f.2 ∙ ap (λ m. f.0 ++ m ∷ []) (sym both.1), both.0)

-- a path that does not go on from p does not where a name is taken off
pub shorter : (p q : Path) (n : Name) → beneath p (q ++ n ∷ []) ≡ None → beneath p q ≡ None
shorter p q n none = by_beneath p q (λ o. o ≡ None)
    (λ s is. absurd (None≢Some (sym none ∙ ap (λ r. beneath p (r ++ n ∷ [])) is ∙ ap (beneath p) (append_assoc p s (n ∷ [])) ∙ beneath-append p (s ++ n ∷ []))))
    (λ _. refl)

-- what stands above a path does not go on from it
pub above-none : (q : Path) (n : Name) → beneath (q ++ n ∷ []) q ≡ None
above-none q n = by_beneath (q ++ n ∷ []) q (λ o. o ≡ None)
    (λ s is. absurd (let l : length q ≡ length (q ++ n ∷ [] ++ s) = ap length is in omega (arith, length-append (q ++ n ∷ []) s, length-append q (n ∷ []))))
    (λ _. refl)

pub move-tree : (t : Contents) (old new : Path) → IsTree t → Apart old new → t (parent_of new) ≡ Some Entry.Dir → IsTree (move t old new)
move-tree t old new tree apart parent = record {
  root = stays [] (starts new (λ is. true≢false (sym (ap (λ p. begins p old) is) ∙ apart.1))) (starts old (λ is. true≢false (sym (ap (λ p. begins p new) is) ∙ apart.0))) ∙ tree.root;
  parents = λ q n. by_beneath new (q ++ n ∷ []) (λ o. IsSome (moved_at t old o (beneath old (q ++ n ∷ [])) (q ++ n ∷ [])) → move t old new q ≡ Some Entry.Dir)
      (λ r is there. in_new q n r there (cut new q r n is))
      (λ none. by_beneath old (q ++ n ∷ []) (λ o. IsSome (moved_at t old None o (q ++ n ∷ [])) → move t old new q ≡ Some Entry.Dir)
      (λ r is there. absurd (true≢false (sym there)))
      (λ none' there. stays q (shorter new q n none) (shorter old q n none') ∙ tree.parents q n there));
}
  where
    starts : (p : Path) → (p ≢ []) → beneath p [] ≡ None
    starts [] h = absurd (h refl)
    starts (n ∷ p) h = refl

    stays : (q : Path) → beneath new q ≡ None → beneath old q ≡ None → move t old new q ≡ t q
    stays q a b = λ i. moved_at t old (a i) (b i) q

    in_new : (q : Path) (n : Name) (r : Path) → IsSome (t (old ++ r)) → (q ++ n ∷ [] ≡ new) ⊎ ((s : Path) × (r ≡ s ++ n ∷ []) × (q ≡ new ++ s)) → move t old new q ≡ Some Entry.Dir
    in_new q n r there (inl is) =
        stays q (ap (λ p. beneath p q) (sym is) ∙ above-none q n)
        (shorter old q n (ap (beneath old) (is ∙ sym (append-nil new)) ∙ beneath-apart old new [] apart.0 apart.1))
        ∙ ap t (sym (parent-push q n) ∙ ap parent_of is) ∙ parent
    in_new q n r there (inr f) =
        ap (move t old new) f.2 ∙ ap (λ o. moved_at t old o (beneath old (new ++ f.0)) (new ++ f.0)) (beneath-append new f.0)
        ∙ tree.parents (old ++ f.0) n (subst (λ p. IsSome (t p)) (ap (λ r. old ++ r) f.1 ∙ sym (append_assoc old f.0 (n ∷ []))) there)

pub shape_law : ShapeLaw
shape_law = record { put = put-tree; removed = remove-tree; moved = move-tree }
