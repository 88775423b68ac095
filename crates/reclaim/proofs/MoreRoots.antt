-- A marking that goes on from one root more.
use Rattle.std.proofs.Common.{◌≡◌, ◌⊎◌, inl, inr, ℕ, ◌-◌, true, false, None, List, [], ◌∷◌, ◌++◌, ap, subst, sym, ◌∙◌, arith}
use Rattle.std.proofs.lemmas.List.Elements.{Contains-append_left, Contains-append_right, Contains-append_cases}
use Rattle.std.specs.Prelude.{Contains}
use Rattle.std.specs.FinSet as set
use Rattle.std.specs.Ordering.{nat_cmp}
use Rattle.node_format.specs.Headers.{body_header}
use Rattle.nodes.specs.Bodies.{Blocks, index_of}
use Rattle.nodes.specs.Reached.{Reached, IsFirst, IsNamed, Names}
use Rattle.nodes.specs.Trees.{IsRoot}
use Rattle.reclaim.specs.Kinds.{IsKnownMarking, Knows}
use Rattle.reclaim.specs.Passes.{Pass, IsMarked, IsPass}
use Rattle.reclaim.specs.Verified.{AreRoots}
use Rattle.reclaim.proofs.Marking.{begins_has, begins_at, begins_length, only_one}
use Rattle.reclaim.proofs.Soundness.{root_kind}

-- more roots reach what fewer do
pub reached_more : (f : Blocks) (xs ys : List ℕ) → ((r : ℕ) → Contains xs r → Contains ys r) → {b : ℕ} → Reached f xs b → Reached f ys b
reached_more f xs ys more {b} (IsFirst first) = IsFirst (more b first)
reached_more f xs ys more {b} (IsNamed {block = block} reached names) = IsNamed (reached_more f xs ys more reached) names

-- one root more was marked
module _ (f : Blocks) (p q : Pass) (root : ℕ) (marked : IsMarked p.order (root ∷ []) q.order) (roots : q.roots ≡ p.roots ++ root ∷ []) (next : q.next ≡ p.next) where
  pub root_added : IsPass f p → IsPass f q
  root_added pass = record {
    rooted = λ b h. rooted b (Contains-append_cases p.roots (root ∷ []) b (subst (λ (l : List ℕ). Contains l b) roots h));
    reached = λ b h. subst (λ (l : List ℕ). Reached f l b) (sym roots) (reached b (marked.only b h));
    named = λ k b lt h.
        begins_has p.order q.order b marked.begins
        (pass.named k b (omega arith) (subst (λ (c : ℕ). Names (f c) b) (begins_at p.order q.order k marked.begins (omega (arith, pass.within))) h));
    whole = λ k lt none. pass.whole k (omega arith) (ap f (sym (begins_at p.order q.order k marked.begins (omega (arith, pass.within)))) ∙ none);
    distinct = marked.distinct pass.distinct;
    within = omega (arith, pass.within, begins_length p.order q.order marked.begins);
  }
    where
      rooted : (b : ℕ) → Contains p.roots b ⊎ Contains (root ∷ []) b → Contains q.order b
      rooted b (inl h) = begins_has p.order q.order b marked.begins (pass.rooted b h)
      rooted b (inr h) = marked.each b h

      reached : (b : ℕ) → Contains p.order b ⊎ Contains (root ∷ []) b → Reached f (p.roots ++ root ∷ []) b
      reached b (inl h) = reached_more f p.roots (p.roots ++ root ∷ []) (λ r has. Contains-append_left p.roots (root ∷ []) r has) (pass.reached b h)
      reached b (inr h) = IsFirst (Contains-append_right p.roots (root ∷ []) b h)

  pub known_added : (limit : ℕ) → IsRoot (limit - body_header) f root → q.bodies ≡ p.bodies → Knows limit f p → Knows limit f q
  known_added limit tree bodies known = λ none. known (λ k. none (record {
    trees = λ r has. tree_of k.trees r (Contains-append_cases p.roots (root ∷ []) r (subst (λ (l : List ℕ). Contains l r) roots has));
    pass = root_added k.pass;
    kinds = record {
      marked = λ b has. begins_has p.order q.order b marked.begins (k.kinds.marked b (noted b has));
      bodies = λ b has. k.kinds.bodies b (noted b has);
      others = λ b has absent. kind k b (sym (ap (λ (s : set.FinSet nat_cmp). set.contains s b) bodies) ∙ absent) (marked.only b has);
    };
  }))
    where
      noted : (b : ℕ) → set.contains q.bodies b ≡ true → set.contains p.bodies b ≡ true
      noted b has = sym (ap (λ (s : set.FinSet nat_cmp). set.contains s b) bodies) ∙ has

      tree_of : AreRoots limit f p.roots → (r : ℕ) → Contains p.roots r ⊎ Contains (root ∷ []) r → IsRoot (limit - body_header) f r
      tree_of trees r (inl has) = trees r has
      tree_of trees r (inr one) = subst (IsRoot (limit - body_header) f) (only_one root r one) tree

      kind : IsKnownMarking limit f p → (b : ℕ) → set.contains p.bodies b ≡ false → Contains p.order b ⊎ Contains (root ∷ []) b → index_of (f b) ≡ None
      kind k b absent (inl has) = k.kinds.others b has absent
      kind k b absent (inr one) = subst (λ (c : ℕ). index_of (f c) ≡ None) (only_one root b one) (root_kind (limit - body_header) f root tree)
