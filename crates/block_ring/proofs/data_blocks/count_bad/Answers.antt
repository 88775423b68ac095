use Rattle.std.proofs.Common.{◌-◌, refl, sym, ◌∙◌, arith}
use Rattle.std.specs.FinSet as set
use Rattle.fs_types.specs.declared.limits.TheConstants.{ANCHORS}
use Rattle.block_ring.proofs.RangeCounts.{count_members, count_fits}
use Rattle.block_ring.proofs.data_blocks.count_bad.Goals as goal

pub returns : goal.returns
returns c =
    c.count_listed.ensures
    ∙ sym (count_members c.args.bad.now ANCHORS (c.args.blocks - ANCHORS) c.args.blocks _ c.iter.ensures.ascending c.iter.ensures.blocks refl)

pub overflow_cast-result : goal.overflow_cast-result
overflow_cast-result c = omega (arith, returns c, count_fits (set.contains c.args.bad.now) ANCHORS (c.args.blocks - ANCHORS))
