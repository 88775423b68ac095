use Rattle.std.proofs.Common.{◌∙◌}
use Rattle.block_ring.proofs.RangeCounts.{count_other_way}
use Rattle.block_ring.proofs.marks.Marks.free_count.Goals as goal

pub returns : goal.returns
returns c = rw (← c.self.view_is) (c.free_count.ensures ∙ count_other_way c.self.inside.set.members c.args.bad.now c.self.inside.set.blocks)
