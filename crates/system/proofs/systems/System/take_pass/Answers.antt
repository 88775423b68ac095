use Rattle.std.proofs.Common.{◌≡◌, ◌↔◌, ℕ, List, ◌++◌, Result, Ok, Err, subst, sym, ◌∙◌}
use Rattle.std.specs.Prelude.{Contains, IfOk}
use Rattle.std.specs.FinSet as set
use Rattle.fs_types.specs.declared.fault.Fault.{Fault}
use Rattle.block_ring.specs.Ring.{IsDataBlock}
use Rattle.reclaim.specs.Passes.{Pass}
use Rattle.system.proofs.systems.System.take_pass.Goals as goal

pub start-requires : goal.start-requires
start-requires c = λ b has.
    subst (λ blocks. IsDataBlock blocks b) (sym c.blocks-blocks.ensures.value)
    (c.requires b (subst (λ (l : List ℕ). Contains l b) (c.deref-2.ensures.value ∙ c.in_ok-extend_from_slice.ensures.items ∙ (λ i. c.in_ok-roots.ensures i ++ c.deref.ensures.value i)) has))

-- a new marking has marked its roots alone
new_first : (r : Result Pass Fault) (roots : List ℕ) (blocks : ℕ) (P : Type 0) → IfOk r (λ p. (b : ℕ) → Contains p.order b ↔ Contains roots b) → IfOk r (λ p. (p.blocks ≡ blocks) × (p.roots ≡ roots) × (p.next ≡ 0))
    → IfOk r (λ p. p.bodies ≡ set.empty) → IfOk r (λ p. P → ((b : ℕ) → Contains p.order b → Contains p.roots b) × (p.bodies ≡ set.empty))
new_first (Ok p) roots blocks P first begun none = λ _. (λ b has. subst (λ (l : List ℕ). Contains l b) (sym begun.1) ((first b).0 has), none)
new_first (Err fault) roots blocks P first begun none = tt

pub returns-clause-first : goal.returns-clause-first
returns-clause-first c = new_first c.start.result c.deref-2.result.now c.blocks-blocks.result _ c.start.ensures.first c.start.ensures.begun c.start.ensures.none
