use Rattle.std.proofs.Common.{below_more, sym, ◌∙◌}
use Rattle.reclaim.proofs.table.Table.is_whole.Goals as goal

pub loop-block-preserved : goal.loop-block-preserved
loop-block-preserved c = below_more _ _ c.loop-block.invariant (sym c.is_whole_at.ensures ∙ c.if-not-is_whole_at.false)
