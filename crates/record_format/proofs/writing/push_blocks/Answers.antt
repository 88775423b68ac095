use Rattle.std.proofs.Common.{true, refl, arith}
use Rattle.arrayvec.specs.ArrayVec.{array_vec_len}
use Rattle.record_format.specs.Payloads.{block_field}
use Rattle.record_format.proofs.Pushed.{pushed_none, pushed_more, pushed_items}
use Rattle.record_format.proofs.writing.push_blocks.Goals as goal

pub loop-block-init : goal.loop-block-init
loop-block-init c = pushed_none _ _ _ _ _ _

pub put_u32-requires : goal.put_u32-requires
put_u32-requires c = omega (arith, c.loop-block.invariant.len)

pub loop-block-preserved : goal.loop-block-preserved
loop-block-preserved c =
    pushed_more block_field (λ block. true) 4 c.args.blocks.now c.args.out.now.items (array_vec_len c.args.out.now)
    c.loop-block.block-index c.loop-block.out.items c.put_u32.new.out.items (array_vec_len c.loop-block.out) (array_vec_len c.put_u32.new.out)
    0 c.loop-block-test.true c.loop-block.invariant c.put_u32.ensures.items (omega arith) refl

pub returns-clause-items : goal.returns-clause-items
returns-clause-items c = pushed_items _ _ _ _ _ _ _ _ _ c.loop-block-test.false c.loop-block.invariant

pub returns-clause-len : goal.returns-clause-len
returns-clause-len c = omega (arith, c.loop-block.invariant.len)
