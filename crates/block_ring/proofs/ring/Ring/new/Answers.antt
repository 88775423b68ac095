use Rattle.std.proofs.Common.{refl}
use Rattle.block_ring.proofs.RingOrder.{IsRing-empty, IsNote-empty}
use Rattle.block_ring.proofs.ring.Ring.new.Goals as goal

pub invariant_of-result : goal.invariant_of-result
invariant_of-result c =
    rw (c.in_ok-used.ensures.ok, c.in_ok-note.ensures.ok) (IsRing-empty _ _ c.requires.size c.requires.last, IsNote-empty _ _ refl)
