use Rattle.std.proofs.Common.{arith}
use Rattle.block_ring.specs.Ring.{IsDataBlock}
use Rattle.reclaim.proofs.Verifying.{all_more, all_end}
use Rattle.reclaim.proofs.verification.are_data_blocks.Goals as goal

pub loop-block-preserved : goal.loop-block-preserved
loop-block-preserved c =
    all_more (IsDataBlock c.args.blocks) c.args.list.now c.loop-block.block-index c.is_data_block.result (omega (arith, c.loop-block-test.true)) c.loop-block.invariant
    c.is_data_block.ensures c.if-not-is_data_block.false

pub returns : goal.returns
returns c = all_end (IsDataBlock c.args.blocks) c.args.list.now c.loop-block.block-index (omega (arith, c.loop-block-test.false)) c.loop-block.invariant
