use Rattle.std.proofs.Common.{◌≡◌, ◌+◌, ◌-◌, suc, arith}
use Rattle.known_nodes.specs.FileBytes.{blocks_back}
use Rattle.known_nodes.specs.Tables.{blocks_in}
use Rattle.known_nodes.proofs.FileBytes.{back_end, back_on}
use Rattle.known_nodes.proofs.bodies.list_back.Goals as goal

pub loop-preserved : goal.loop-preserved
loop-preserved c =
    let f = blocks_in c.args.table.now in
    let left = c.args.index - (c.loop.counter + 1) in
    let more : c.args.index - c.loop.counter ≡ suc left = let below = c.loop-test.true in omega (arith, below) in
    back_on f (blocks_back f c.args.index c.args.block) c.loop.blocks.items c.push.new.self.items (c.args.index - c.loop.counter) left c.loop.at c.pointer_at-at.result more c.loop.invariant c.in_ok-push.ensures.items c.pointer_at-at.ensures

pub returns : goal.returns
returns c =
    let f = blocks_in c.args.table.now in
    let last : c.args.index - c.loop.counter ≡ 0 = let past = c.loop-test.false in omega (arith, past) in
    back_end f (blocks_back f c.args.index c.args.block) c.loop.blocks.items c.push-2.new.self.items (c.args.index - c.loop.counter) c.loop.at last c.loop.invariant c.in_ok-push-2.ensures.items
