use Rattle.block_ring.proofs.RingOrder.{AreDataBlocks-empty}
use Rattle.block_ring.proofs.marks.Marks.new.Goals as goal

pub invariant_of-result : goal.invariant_of-result
invariant_of-result c = rw c.in_ok-set.ensures.ok (AreDataBlocks-empty _)
