use Rattle.std.proofs.Common.{◌∙◌}
use Rattle.bad_blocks.proofs.Ascending.{contains_searched}
use Rattle.bad_blocks.proofs.set.BadBlocks.contains.Goals as goal

pub returns : goal.returns
returns c =
    c.is_ok.ensures.value
    ∙ rw (← c.self.view_is) (contains_searched _ _ _ c.self.invariant (rw c.deref.ensures.0 at c.binary_search.ensures.position))
