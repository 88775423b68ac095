use Rattle.std.proofs.Common.{ap, subst, sym, ◌∙◌}
use Rattle.std.specs.Prelude.{Contains}
use Rattle.std.specs.FinSet as set
use Rattle.block_ring.specs.Ring.{IsDataBlock}
use Rattle.reclaim.specs.Passes.{Pass}
use Rattle.reclaim.proofs.Marking.{listed_from}
use Rattle.reclaim.proofs.pass.Pass.marked.Goals as goal

pub returns-clause-data_blocks : goal.returns-clause-data_blocks
returns-clause-data_blocks c b has =
    let is = c.self.view_is in
    subst (λ (p : Pass). IsDataBlock p.blocks b) is
    (c.blocks-blocks.ensures.data_blocks b
    (ap (λ s. set.contains s b) c.self.invariant.0.members ∙ listed_from c.self.inside.order.items b (subst (λ (p : Pass). Contains p.order b) (sym is) has)))
