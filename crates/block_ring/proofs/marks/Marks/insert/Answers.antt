use Rattle.std.proofs.Common.{ap, arith}
use Rattle.block_ring.specs.BlockSet.{BlockSet}
use Rattle.block_ring.proofs.RingOrder.{AreDataBlocks-insert}
use Rattle.block_ring.proofs.marks.Marks.insert.Goals as goal

pub invariant_of-self : goal.invariant_of-self
invariant_of-self c =
    rw c.insert.ensures
    (AreDataBlocks-insert _ _ _ c.self.invariant (c.requires.0, omega (arith, ap (λ (s : BlockSet). s.blocks) c.self.view_is, c.requires.1)))
