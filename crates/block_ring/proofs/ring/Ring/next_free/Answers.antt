use Rattle.std.proofs.Common.{◌∙◌, ap, find, not}
use Rattle.block_ring.specs.Ring.{Ring, is_busy, ring_order}
use Rattle.block_ring.proofs.RingOrder.{none_found}
use Rattle.block_ring.proofs.ring.Ring.next_free.Goals as goal

pub returns-clause-next : goal.returns-clause-next
returns-clause-next c =
    c.first_free.ensures
    ∙ ap (λ n. find (λ b. not (is_busy c.args.self.now c.args.bad.now b)) (ring_order c.args.self.now.blocks n)) (ap (λ (r : Ring). r.last) c.self.view_is)

pub returns-clause-first : goal.returns-clause-first
returns-clause-first c = none_found _ c.args.self.now c.args.bad.now _ c.self.view_is c.self.invariant.0 (returns-clause-next c)
