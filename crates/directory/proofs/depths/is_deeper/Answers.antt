use Rattle.std.proofs.Common.{◌≡◌, ℕ, refl, inl, inr, [], ◌∷◌, ap, subst, sym, ◌∙◌, arith}
use Rattle.std.specs.Prelude.{Contains}
use Rattle.std.proofs.lemmas.Result.{IfOk-weaker}
use Rattle.node_format.specs.declared.place.Place.TheVariants.{Dir}
use Rattle.nodes.proofs.Chains.{either_of}
use Rattle.directory.specs.Lookups.{LeadsToDirectories}
use Rattle.directory.specs.Depths.{IsDeeper}
use Rattle.std.specs.FinSet as set
use Rattle.std.specs.Ordering.{nat_cmp}
use Rattle.std.proofs.lemmas.Bool.{true≢false}
use Rattle.block_ring.specs.BlockSet.{BlockSet}
use Rattle.directory.proofs.depths.is_deeper.Goals as goal

only : (block root : ℕ) → Contains (block ∷ []) root → block ≡ root
only block root rooted = elim (either_of block root [] rooted) [ inl is ↦ is | inr (k, lt, is) ↦ absurd (omega (arith, lt)) ]

pub returns-clause-deeper : goal.returns-clause-deeper
returns-clause-deeper g c =
    let f = g.N.Nodes.node c.args.nodes.now in
    λ whole. IfOk-weaker c.any_is_deeper.result _ _ (λ deep found is. let at = found is in subst (λ (b : ℕ). IsDeeper f (Dir b) c.args.most) (sym (only c.args.block at.0 at.1)) at.2)
    (c.any_is_deeper.ensures.deeper (λ root rooted. subst (LeadsToDirectories f) (only c.args.block root rooted) whole))

pub any_is_deeper-requires-clause-quiet : goal.any_is_deeper-requires-clause-quiet
any_is_deeper-requires-clause-quiet g c b has =
    absurd (true≢false (sym has ∙ ap (λ (s : BlockSet). set.contains s.members b) c.in_ok-none.ensures.ok ∙ set.contains-empty nat_cmp b))

pub returns-clause-shallow : goal.returns-clause-shallow
returns-clause-shallow g c = IfOk-weaker c.any_is_deeper.result _ _ (λ deep found is. found is c.args.block (0, omega arith, refl)) c.any_is_deeper.ensures.shallow
