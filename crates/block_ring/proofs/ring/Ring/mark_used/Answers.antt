use Rattle.std.proofs.Common.{ap, arith}
use Rattle.block_ring.specs.Ring.{Ring}
use Rattle.block_ring.proofs.RingOrder.{IsRing-insert, IsNote-insert}
use Rattle.block_ring.proofs.ring.Ring.mark_used.Goals as goal

pub insert-requires : goal.insert-requires
insert-requires c = omega (arith, ap (λ (r : Ring). r.blocks) c.self.view_is, c.requires.1)

pub insert-requires-2 : goal.insert-requires-2
insert-requires-2 c = omega (arith, ap (λ (r : Ring). r.blocks) c.self.view_is, c.self.invariant.1.same_blocks, c.requires.1)

pub invariant_of-self : goal.invariant_of-self
invariant_of-self c =
    rw (c.insert.ensures, c.insert-2.ensures) (
      IsRing-insert _ _ _ _ _ c.self.invariant.0 (c.requires.0, omega (arith, ap (λ (r : Ring). r.blocks) c.self.view_is, c.requires.1))
          c.self.invariant.0.last_block,
      IsNote-insert _ _ _ c.self.invariant.1 (c.requires.0, omega (arith, ap (λ (r : Ring). r.blocks) c.self.view_is, c.requires.1)),
    )
