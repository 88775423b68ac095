-- How many nodes a change of a tree's directories may write.
use Rattle.std.proofs.Common.{◌≡◌, ◌≢◌, ℕ, zero, suc, ◌+◌, ◌<◌, ◌≤◌, true, false, None, [], ◌∷◌, ◌++◌, length, take, sym, ap, refl, ◌∙◌, subst, arith, IsSome, append-nil, append_assoc, inl, inr, ◌⊎◌}
use Rattle.std.proofs.lemmas.Bool.{true≢false}
use Rattle.std.proofs.lemmas.List.{length-append, same_from_push}
use Rattle.std.specs.Option.{is_some}
use Rattle.std.proofs.lemmas.List.Sums.{sum_by-cons}
use Rattle.std.specs.Prelude.{sum_by}
use Rattle.std.specs.List.{range_with_len}
use Rattle.std.specs.FinMap.{get}
use Rattle.fs_types.specs.Names.{Name, Path}
use Rattle.plain_trees.specs.Contents.{Entry, Apart, begins}
use Rattle.plain_trees.specs.Trees.{Tree, put, move, entry_count, nodes_for, directory_need, path_need}
use Rattle.plain_trees.proofs.Beneath.{begins-append, by_beneath}
use Rattle.plain_trees.proofs.Counts.{Has, count-grows}
use Rattle.plain_trees.proofs.FileTrees.{by_put}
use Rattle.plain_trees.proofs.Edits.{move_law}
use Rattle.plain_trees.proofs.Shapes.{cut}

-- How many nodes a directory has.

-- one at least
pub nodes_for-some : (n : ℕ) → 0 < nodes_for n
nodes_for-some n = omega arith

-- more for more entries
pub nodes_for-le : (m n : ℕ) → m ≤ n → nodes_for m ≤ nodes_for n
nodes_for-le m n h = omega arith

-- one more entry asks at most one node more
pub nodes_for-more : (n : ℕ) → nodes_for (n + 1) ≤ nodes_for n + 1
nodes_for-more n = omega arith

-- Sums over the directories of a path.

-- a sum of larger terms is larger
pub sum_below-le : (g h : ℕ → ℕ) (a n : ℕ) → ((i : ℕ) → a ≤ i → i < a + n → g i ≤ h i) → sum_by g (range_with_len a n) ≤ sum_by h (range_with_len a n)
sum_below-le g h a zero each = omega arith
sum_below-le g h a (suc n) each =
    let here : g a ≤ h a = each a (omega arith) (omega arith) in
    let rest : sum_by g (range_with_len (a + 1) n) ≤ sum_by h (range_with_len (a + 1) n) = sum_below-le g h (a + 1) n (λ i low high. each i (omega arith) (omega arith)) in
    omega (arith, sum_by-cons g a (range_with_len (a + 1) n), sum_by-cons h a (range_with_len (a + 1) n))

-- a sum of terms that are one at least is as great as the number of them
pub sum_below-long : (g : ℕ → ℕ) (a n : ℕ) → ((i : ℕ) → 0 < g i) → n ≤ sum_by g (range_with_len a n)
sum_below-long g a zero some = omega arith
sum_below-long g a (suc n) some =
    let here : 0 < g a = some a in
    let rest : n ≤ sum_by g (range_with_len (a + 1) n) = sum_below-long g (a + 1) n some in
    omega (arith, sum_by-cons g a (range_with_len (a + 1) n))

-- each directory has one node at least
pub path_need-long : (t t' : Tree) (p : Path) → length p ≤ path_need t t' p
path_need-long t t' p = sum_below-long (λ i. directory_need t t' (take i p)) 0 (length p) (λ i. let some = nodes_for-some (entry_count t (take i p)) in omega arith)

-- How many entries a directory has in which a name is new.

module _ (t : Tree) (p : Path) (n : Name) (none : get t (p ++ n ∷ []) ≡ None) where
  -- a name that is there is another
  another : (m : Name) → Has t p m → m ≢ n
  another m has same = true≢false (sym has ∙ ap (λ (k : Name). is_some (get t (p ++ k ∷ []))) same ∙ ap is_some none)

  -- put where nothing stood
  pub put-grows : (x : Entry) → entry_count t p + 1 ≤ entry_count (put t (p ++ n ∷ []) x) p
  put-grows x = count-grows t (put t (p ++ n ∷ []) x) p p n (by_put t (p ++ n ∷ []) x (p ++ n ∷ []) (λ o. IsSome o) (λ _. refl) (λ other. absurd (other refl)))
      (λ m has. (another m has, by_put t (p ++ n ∷ []) x (p ++ m ∷ []) (λ o. IsSome o) (λ _. refl) (λ _. has)))

  -- moved there from elsewhere, where nothing stood
  pub move-grows : (old : Path) → Apart old (p ++ n ∷ []) → begins p old ≡ false → IsSome (get t old) → entry_count t p + 1 ≤ entry_count (move t old (p ++ n ∷ [])) p
  move-grows old apart elsewhere there = count-grows t (move t old new) p p n
      (subst IsSome (sym (ap (get (move t old new)) (sym (append-nil new)) ∙ move_law.moved t old new [] apart ∙ ap (get t) (append-nil old))) there)
      (λ m has. (another m has, subst IsSome (sym (move_law.others t old new (p ++ m ∷ []) (not-moved m) (not-new m has))) has))
    where
      new : Path
      new = p ++ n ∷ []

      not-moved : (m : Name) → begins old (p ++ m ∷ []) ≡ false
      not-moved m = by_beneath old (p ++ m ∷ []) (λ o. is_some o ≡ false) (λ r is. at r (cut old p r m is)) (λ _. refl)
        where
          at : (r : Path) → (p ++ m ∷ [] ≡ old) ⊎ ((s : Path) × (r ≡ s ++ m ∷ []) × (p ≡ old ++ s)) → true ≡ false
          at r (inl is) = sym (begins-append p (m ∷ [])) ∙ ap (begins p) is ∙ elsewhere
          at r (inr f) = sym (begins-append old (f.0 ++ n ∷ [])) ∙ ap (begins old) (sym (append_assoc old f.0 (n ∷ [])) ∙ ap (λ (d : Path). d ++ n ∷ []) (sym f.2)) ∙ apart.0

      not-new : (m : Name) → Has t p m → begins new (p ++ m ∷ []) ≡ false
      not-new m has = by_beneath new (p ++ m ∷ []) (λ o. is_some o ≡ false) (λ r is. at r (cut new p r m is)) (λ _. refl)
        where
          at : (r : Path) → (p ++ m ∷ [] ≡ new) ⊎ ((s : Path) × (r ≡ s ++ m ∷ []) × (p ≡ new ++ s)) → true ≡ false
          at r (inl is) = absurd (another m has (same_from_push p p m n is).1)
          at r (inr f) = absurd (let long = ap length f.2 in omega (arith, long, length-append new f.0, length-append p (n ∷ [])))
