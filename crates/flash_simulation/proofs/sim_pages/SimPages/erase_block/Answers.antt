use Rattle.std.proofs.Common.{◌∙◌}
use Rattle.flash_simulation.proofs.Erasing.{ErasedBelow-more}
use Rattle.flash_simulation.proofs.sim_pages.SimPages.erase_block.Goals as goal

pub loop-place-preserved : goal.loop-place-preserved
loop-place-preserved c = (
  c.erase.ensures.count ∙ c.loop-place.invariant.0,
  c.erase.ensures.size ∙ c.loop-place.invariant.1,
  ErasedBelow-more _ _ _ _ _ _ _ c.loop-place-test.true c.loop-place.invariant.2 (record { others = c.erase.ensures.others; own = c.erase.ensures.own }),
)
