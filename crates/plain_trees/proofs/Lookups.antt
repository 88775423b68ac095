-- Path resolution: it succeeds exactly where a directory stands above.
use Rattle.std.proofs.Common.{◌≡◌, suc, ◌-◌, ◌<◌, Option, Some, None, [], ◌∷◌, ◌++◌, length, take, sym, ap, refl, ◌∙◌, subst, arith, IsSome, append_assoc, append-nil}
use Rattle.std.proofs.lemmas.List.{length-append, take_at}
use Rattle.std.specs.Option.{option_or, is_some}
use Rattle.std.specs.FinMap.{get}
use Rattle.fs_types.specs.Names.{Name, Path}
use Rattle.plain_trees.specs.Contents.{Entry, Contents, parent_of, under, IsTree, way_refusal, lookup_refusal}
use Rattle.fs_types.specs.declared.fault.Fault.{Fault}
use Rattle.plain_trees.specs.Laws.{LookupLaw}
use Rattle.plain_trees.proofs.Beneath.{None≢Some}

pub some-is : {A : Type 0} (o : Option A) (x : A) → o ≡ Some x → IsSome o
some-is o x e = ap is_some e

-- a directory stands above whatever stands
pub above : (t : Contents) → IsTree t → (p q : Path) (n : Name) → IsSome (t (p ++ n ∷ q)) → t p ≡ Some Entry.Dir
above t tree p [] n there = tree.parents p n there
above t tree p (k ∷ q) n there = tree.parents p n (some-is _ Entry.Dir (above t tree (p ++ n ∷ []) q k (subst (λ r. IsSome (t r)) (sym (append_assoc p (n ∷ []) (k ∷ q))) there)))

-- a tree's part below a directory is one
pub under-tree : (t : Contents) (p : Path) → IsTree t → t p ≡ Some Entry.Dir → IsTree (under t p)
under-tree t p tree here = record {
  root = ap t (append-nil p) ∙ here;
  parents = λ q n there. tree.parents (p ++ q) n (subst (λ r. IsSome (t r)) (sym (append_assoc p q (n ∷ []))) there);
}

lookup-cons : (t : Contents) (m : Name) (q : Path) → 0 < length q → lookup_refusal t (m ∷ q) ≡ option_or (way_refusal (t (m ∷ []))) (lookup_refusal (under t (m ∷ [])) q)
lookup-cons t m [] h = absurd (omega arith)
lookup-cons t m (n ∷ q) h = refl

pub lookup-append : (t : Contents) → IsTree t → (p q : Path) → t p ≡ Some Entry.Dir → 0 < length q → lookup_refusal t (p ++ q) ≡ lookup_refusal (under t p) q
lookup-append t tree [] q here h = refl
lookup-append t tree (m ∷ p) q here h =
    let dir : t (m ∷ []) ≡ Some Entry.Dir = first p here in
    let long : 0 < length (p ++ q) = omega (arith, length-append p q) in
    lookup-cons t m (p ++ q) long ∙ ap (λ o. option_or (way_refusal o) (lookup_refusal (under t (m ∷ [])) (p ++ q))) dir ∙ lookup-append (under t (m ∷ [])) (under-tree t (m ∷ []) tree dir) p q here h
  where
    first : (p : Path) → t (m ∷ p) ≡ Some Entry.Dir → t (m ∷ []) ≡ Some Entry.Dir
    first [] e = e
    first (k ∷ p) e = above t tree (m ∷ []) p k (some-is _ Entry.Dir e)

pub parent-push : (p : Path) (n : Name) → parent_of (p ++ n ∷ []) ≡ p
parent-push p n = let l : length p ≡ length (p ++ n ∷ []) - 1 = omega (arith, length-append p (n ∷ [])) in take_at p (n ∷ []) (length (p ++ n ∷ []) - 1) l

parent-cons : (n m : Name) (p : Path) → parent_of (n ∷ m ∷ p) ≡ n ∷ parent_of (m ∷ p)
parent-cons n m p = let e : length (n ∷ m ∷ p) - 1 ≡ suc (length (m ∷ p) - 1) = omega arith in ap (λ k. take k (n ∷ m ∷ p)) e

passed : (o : Option Entry) (rest : Option Fault) → option_or (way_refusal o) rest ≡ None → (o ≡ Some Entry.Dir) × (rest ≡ None)
passed None rest e = absurd (None≢Some (sym e))
passed (Some Entry.Dir) rest e = (refl, e)
passed (Some (Entry.File bytes)) rest e = absurd (None≢Some (sym e))

-- what a path that resolves stands in is a directory
pub resolved : (t : Contents) (p : Path) → t [] ≡ Some Entry.Dir → 0 < length p → lookup_refusal t p ≡ None → t (parent_of p) ≡ Some Entry.Dir
resolved t [] root h e = absurd (omega arith)
resolved t (n ∷ []) root h e = root
resolved t (n ∷ m ∷ p) root h e =
    let step : (t (n ∷ []) ≡ Some Entry.Dir) × (lookup_refusal (under t (n ∷ [])) (m ∷ p) ≡ None) = passed (t (n ∷ [])) _ e in
    ap t (parent-cons n m p) ∙ resolved (under t (n ∷ [])) (m ∷ p) step.0 (omega arith) step.1

pub lookup_law : LookupLaw
lookup_law = record {
  found = λ t p n tree. (
    λ e. ap (get t) (sym (parent-push p n)) ∙ resolved (get t) (p ++ n ∷ []) tree.root (omega (arith, length-append p (n ∷ []))) e,
    λ here. lookup-append (get t) tree p (n ∷ []) here (omega arith),
  );
  missing = λ t p n m rest here tree none. lookup-append (get t) tree p (n ∷ m ∷ rest) here (omega arith)
      ∙ ap (λ o. option_or (way_refusal o) (lookup_refusal (under (under (get t) p) (n ∷ [])) (m ∷ rest))) none;
  file = λ t p n m rest bytes here tree is. lookup-append (get t) tree p (n ∷ m ∷ rest) here (omega arith)
      ∙ ap (λ o. option_or (way_refusal o) (lookup_refusal (under (under (get t) p) (n ∷ [])) (m ∷ rest))) is;
}
