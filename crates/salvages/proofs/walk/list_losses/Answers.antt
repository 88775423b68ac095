use Rattle.std.proofs.Common.{◌≡◌, ◌+◌, ◌-◌, ◌∙◌, suc, ap, arith}
use Rattle.std.proofs.lemmas.Result.{err_from_is_err_and}
use Rattle.salvages.specs.Losses.{lost_of, cost_of}
use Rattle.known_nodes.specs.Tables.{blocks_in}
use Rattle.salvages.proofs.Levels.{lost_level, cost_level, much_level, lost_end, much_end}
use Rattle.salvages.proofs.walk.list_losses.Goals as goal

pub returns-in_err-take_level-clause-err : goal.returns-in_err-take_level-clause-err
returns-in_err-take_level-clause-err c =
    let p = err_from_is_err_and c.from_residual-in_err-take_level.result c.from_residual-in_err-take_level.ensures.1 in
    let more : 16 - c.loop.counter ≡ suc (16 - (c.loop.counter + 1)) = let below = c.loop-test.true in omega (arith, below) in
    rw (p.1, p.2) (much_level c.args.known.now.capacity (blocks_in c.args.known.now.nodes) (cost_of c.args.known.now.capacity (blocks_in c.args.known.now.nodes) c.args.root) c.loop.found.cost
    (16 - c.loop.counter) (16 - (c.loop.counter + 1)) c.loop.found.ways.items c.in_err-take_level.field-0.0 more c.loop.invariant.cost c.in_err-take_level.ensures.err)

pub loop-preserved : goal.loop-preserved
loop-preserved c =
    let capacity = c.args.known.now.capacity in
    let f = blocks_in c.args.known.now.nodes in
    let left = 16 - (c.loop.counter + 1) in
    let more : 16 - c.loop.counter ≡ suc left = let below = c.loop-test.true in omega (arith, below) in
    let own = c.in_ok-take_level.ensures in
    let new = c.take_level.new.found in
    record {
      losses = lost_level capacity f (lost_of capacity f c.args.root) c.loop.found.losses.items new.losses.items (16 - c.loop.counter) left c.loop.found.ways.items new.ways.items more c.loop.invariant.losses own.losses own.ways;
      cost = cost_level capacity f (cost_of capacity f c.args.root) c.loop.found.cost new.cost (16 - c.loop.counter) left c.loop.found.ways.items new.ways.items more c.loop.invariant.cost own.cost own.ways;
      few = own.few;
    }

pub returns-in_err-take_all_last-clause-err : goal.returns-in_err-take_all_last-clause-err
returns-in_err-take_all_last-clause-err c =
    let p = err_from_is_err_and c.from_residual-in_err-take_all_last.result c.from_residual-in_err-take_all_last.ensures.1 in
    let last : 16 - c.loop.counter ≡ 0 = let past = c.loop-test.false in omega (arith, past) in
    let same : c.deref.result.now ≡ c.loop.found.ways.items = c.deref.ensures.value ∙ ap (λ ways. ways.items) c.replace-ways.ensures.value in
    rw (p.1, p.2) (much_end c.args.known.now.capacity (blocks_in c.args.known.now.nodes) (cost_of c.args.known.now.capacity (blocks_in c.args.known.now.nodes) c.args.root) c.loop.found.cost (16 - c.loop.counter)
    c.loop.found.ways.items c.deref.result.now c.in_err-take_all_last.field-0.0 same last c.loop.invariant.cost c.in_err-take_all_last.ensures.err)

pub returns-clause-losses : goal.returns-clause-losses
returns-clause-losses c =
    let last : 16 - c.loop.counter ≡ 0 = let past = c.loop-test.false in omega (arith, past) in
    let same : c.deref.result.now ≡ c.loop.found.ways.items = c.deref.ensures.value ∙ ap (λ ways. ways.items) c.replace-ways.ensures.value in
    lost_end c.args.known.now.capacity (blocks_in c.args.known.now.nodes) (lost_of c.args.known.now.capacity (blocks_in c.args.known.now.nodes) c.args.root) c.loop.found.losses.items c.take_all_last.new.found.losses.items
    (16 - c.loop.counter) c.loop.found.ways.items c.deref.result.now same last c.loop.invariant.losses c.in_ok-take_all_last.ensures.losses
