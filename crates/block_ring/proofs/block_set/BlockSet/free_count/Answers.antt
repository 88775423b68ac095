use Rattle.std.proofs.Common.{ap, arith}
use Rattle.block_ring.specs.BlockSet.{BlockSet}
use Rattle.block_ring.proofs.RangeCounts.{count_free}
use Rattle.block_ring.proofs.block_set.BlockSet.free_count.Goals as goal

pub overflow_cast-result : goal.overflow_cast-result
overflow_cast-result c =
    let count = ap (λ (s : BlockSet). s.blocks) c.self.view_is in
    omega (arith, count_free c.args.self.now.members c.args.bad.now c.args.self.now.blocks _ c.requires.size c.requires.data_blocks c.iter-listed.ensures.ascending c.iter-listed.ensures.blocks)

pub overflow_sub-result-2 : goal.overflow_sub-result-2
overflow_sub-result-2 c =
    let count = ap (λ (s : BlockSet). s.blocks) c.self.view_is in
    omega (arith, count_free c.args.self.now.members c.args.bad.now c.args.self.now.blocks _ c.requires.size c.requires.data_blocks c.iter-listed.ensures.ascending c.iter-listed.ensures.blocks)

pub overflow_sub-result-3 : goal.overflow_sub-result-3
overflow_sub-result-3 c =
    let count = ap (λ (s : BlockSet). s.blocks) c.self.view_is in
    omega (arith, count_free c.args.self.now.members c.args.bad.now c.args.self.now.blocks _ c.requires.size c.requires.data_blocks c.iter-listed.ensures.ascending c.iter-listed.ensures.blocks)

pub returns : goal.returns
returns c =
    let count = ap (λ (s : BlockSet). s.blocks) c.self.view_is in
    omega (arith, count_free c.args.self.now.members c.args.bad.now c.args.self.now.blocks _ c.requires.size c.requires.data_blocks c.iter-listed.ensures.ascending c.iter-listed.ensures.blocks)
