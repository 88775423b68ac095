use Rattle.std.proofs.Common.{ap, subst, refl, arith}
use Rattle.block_ring.specs.Ring.{Ring, IsDataBlock}
use Rattle.block_ring.proofs.RingOrder.{IsRing-insert, IsNote-insert, next_found, after_take, is_taken}
use Rattle.block_ring.proofs.ring.Ring.take_at.Goals as goal

pub insert-requires : goal.insert-requires
insert-requires c =
    let next = next_found _ _ _ _ _ c.self.view_is c.self.invariant.0 refl c.requires.1 in
    omega (arith, ap (λ (r : Ring). r.blocks) c.self.view_is, next.data_block.1)

pub insert-requires-2 : goal.insert-requires-2
insert-requires-2 c =
    let next = next_found _ _ _ _ _ c.self.view_is c.self.invariant.0 refl c.requires.1 in
    omega (arith, ap (λ (r : Ring). r.blocks) c.self.view_is, c.self.invariant.1.same_blocks, next.data_block.1)

pub invariant_of-self : goal.invariant_of-self
invariant_of-self c =
    let next = next_found _ _ _ _ _ c.self.view_is c.self.invariant.0 refl c.requires.1 in
    rw (c.insert.ensures, c.insert-2.ensures) (
      IsRing-insert _ _ _ _ _ c.self.invariant.0 (next.data_block.0, omega (arith, ap (λ (r : Ring). r.blocks) c.self.view_is, next.data_block.1))
          (next.data_block.0, omega (arith, ap (λ (r : Ring). r.blocks) c.self.view_is, next.data_block.1)),
      IsNote-insert _ _ _ c.self.invariant.1 (next.data_block.0, omega (arith, ap (λ (r : Ring). r.blocks) c.self.view_is, next.data_block.1)),
    )

pub returns : goal.returns
returns c bad found =
    let next = next_found _ _ _ _ _ c.self.view_is c.self.invariant.0 refl found in
    rw (c.insert.ensures, c.insert-2.ensures, c.more-self-inside.ensures)
    (is_taken _ _ _ _ (ap (λ (r : Ring). after_take r c.args.next) c.self.view_is) (subst (λ (r : Ring). IsDataBlock r.blocks r.last) c.self.view_is c.self.invariant.0.last_block) next)
