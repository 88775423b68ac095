-- The edits of what stands at each path, as grafts, and the edits of a finite map.
use Rattle.std.proofs.Common.{◌≡◌, false, cond, Option, Some, None, [], ◌∷◌, ◌++◌, sym, ap, refl, ◌∙◌, append_assoc, append-nil, length, arith, length-append}
use Rattle.fs_types.specs.Names.{Name, Path, same_path}
use Rattle.plain_trees.specs.Contents.{Entry, Contents, beneath, under, nothing, leaf, graft, grafted_at, moved_at, IsLast}
use Rattle.plain_trees.specs.Laws.{ContentsLaw, GraftLaw}
use Rattle.fs_types.proofs.Orders.{same_path-own}
use Rattle.plain_trees.proofs.Beneath.{by_beneath, beneath-append, beneath-own, beneath-beneath, same_path-false, None≢Some}
use Rattle.plain_trees.proofs.Edits.{get-put, get-removed, get-moved}

pub contents_law : ContentsLaw
contents_law = record {
  put = λ t p x i q. get-put t p x q i;
  removed = λ t p i q. get-removed t p q i;
  moved = λ t old new i q. get-moved t old new q i;
}

off : (p : Path) (n : Name) (r : Path) → same_path (p ++ n ∷ r) p ≡ false
off p n r = same_path-false (p ++ n ∷ r) p (λ e. let l : length (p ++ n ∷ r) ≡ length p = ap length e in absurd (omega (arith, length-append p (n ∷ r))))

other : (p q : Path) → beneath p q ≡ None → same_path q p ≡ false
other p q none = same_path-false q p (λ e. None≢Some (sym none ∙ ap (beneath p) e ∙ beneath-own p))

-- one place is changed, where nothing stands below it
one-place : (t : Contents) (p : Path) (o : Option Entry) (s : Contents) → s [] ≡ o → ((n : Name) (r : Path) → s (n ∷ r) ≡ None) → IsLast t p → (q : Path) → cond (same_path q p) o (t q) ≡ graft t p s q
one-place t p o s here below last q = by_beneath p q (λ b. cond (same_path q p) o (t q) ≡ grafted_at t s b q)
    (λ r is. ap (λ q. cond (same_path q p) o (t q)) is ∙ at r)
    (λ none. ap (λ b. cond b o (t q)) (other p q none))
  where
    at : (r : Path) → cond (same_path (p ++ r) p) o (t (p ++ r)) ≡ s r
    at [] = ap (λ b. cond b o (t (p ++ []))) (ap (λ q. same_path q p) (append-nil p) ∙ same_path-own p) ∙ sym here
    at (n ∷ r) = ap (λ b. cond b o (t (p ++ n ∷ r))) (off p n r) ∙ last n r ∙ sym (below n r)

-- a graft inside a graft
below-under : (t s : Contents) (p r : Path) (o : Option Path) → grafted_at t s o (p ++ r) ≡ grafted_at (under t p) s o r
below-under t s p r None = refl
below-under t s p r (Some q) = refl

joined-none : (p q x : Path) → beneath p x ≡ None → beneath (p ++ q) x ≡ None
joined-none p q x none = by_beneath (p ++ q) x (λ o. o ≡ None) (λ r is. absurd (None≢Some (sym none ∙ ap (beneath p) (is ∙ append_assoc p q r) ∙ beneath-append p (q ++ r)))) (λ _. refl)

deeper : (t s : Contents) (p q x : Path) → graft t (p ++ q) s x ≡ graft t p (graft (under t p) q s) x
deeper t s p q x = by_beneath p x (λ o. graft t (p ++ q) s x ≡ grafted_at t (graft (under t p) q s) o x)
    (λ r is. ap (graft t (p ++ q) s) is ∙ ap (λ o. grafted_at t s o (p ++ r)) (beneath-beneath p q r) ∙ below-under t s p r (beneath q r))
    (λ none. ap (λ o. grafted_at t s o x) (joined-none p q x none))

moved-graft : (t u : Contents) (old q : Path) (a b : Option Path) → u q ≡ grafted_at t nothing b q → moved_at t old a b q ≡ grafted_at u (under t old) a q
moved-graft t u old q (Some r) b h = refl
moved-graft t u old q None (Some r) h = sym h
moved-graft t u old q None None h = sym h

pub graft_law : GraftLaw
graft_law = record {
  put = λ t p x last i q. one-place t p (Some x) (leaf x) refl (λ n r. refl) last q i;
  removed = λ t p last i q. one-place t p None nothing refl (λ n r. refl) last q i;
  moved = λ t old new i q. moved-graft t (graft t old nothing) old q (beneath new q) (beneath old q) refl i;
  deeper = λ t s p q i x. deeper t s p q x i;
  inside = λ t s p i q. ap (λ o. grafted_at t s o (p ++ q)) (beneath-append p q) i;
}
