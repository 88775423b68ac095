use Rattle.block_ring.proofs.RingOrder.{IsNote-empty}
use Rattle.block_ring.proofs.ring.Ring.watch.Goals as goal

pub invariant_of-self : goal.invariant_of-self
invariant_of-self c = rw c.clear.ensures (c.self.invariant.0, IsNote-empty _ _ c.self.invariant.1.same_blocks)
