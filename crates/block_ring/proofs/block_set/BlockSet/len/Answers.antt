use Rattle.std.proofs.Common.{◌-◌, ◌*◌, ◌/◌, ◌≤◌, ap, arith}
use Rattle.std.specs.FinSet as set
use Rattle.block_ring.specs.BlockSet.{BlockSet}
use Rattle.block_ring.proofs.RangeCounts.{count_split, count_fits}
use Rattle.block_ring.proofs.block_set.BlockSet.len.Goals as goal

pub returns : goal.returns
returns c =
    let count = ap (λ (s : BlockSet). s.blocks) c.self.view_is in
    let first = 64 * (c.self.inside.blocks / 64) in
    let fits : first ≤ c.self.inside.blocks = omega arith in
    omega (arith, count_split (set.contains c.args.self.now.members) 0 first (c.args.self.now.blocks - first) c.args.self.now.blocks first (omega arith) (omega arith))

pub overflow_add-result : goal.overflow_add-result
overflow_add-result c =
    let count = ap (λ (s : BlockSet). s.blocks) c.self.view_is in
    omega (arith, count_fits (set.contains c.args.self.now.members) 0 (64 * (c.self.inside.blocks / 64)), count_fits (set.contains c.args.self.now.members) (64 * (c.self.inside.blocks / 64)) (c.args.self.now.blocks - 64 * (c.self.inside.blocks / 64)))
