use Rattle.std.proofs.Common.{ap, ◌∙◌, sym}
use Rattle.block_ring.specs.Ring.{Ring}
use Rattle.block_ring.proofs.RingOrder.{installed}
use Rattle.block_ring.proofs.ring.Ring.install.Goals as goal

pub invariant_of-self : goal.invariant_of-self
invariant_of-self c =
    rw c.and.ensures.value
    (installed _ _ _ _ _ c.self.invariant.0 c.self.invariant.1 (c.requires ∙ sym (ap (λ (r : Ring). r.blocks) c.self.view_is))
    c.and.ensures.data_blocks)
