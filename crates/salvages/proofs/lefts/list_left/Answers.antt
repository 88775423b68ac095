use Rattle.std.proofs.Common.{◌≡◌, ◌+◌, ◌-◌, ◌∙◌, suc, ap, arith}
use Rattle.std.specs.List.{flat_map}
use Rattle.salvages.specs.Lefts.{left_of, next_left}
use Rattle.known_nodes.specs.Tables.{blocks_in}
use Rattle.salvages.proofs.Listing.{last_left, level_left}
use Rattle.salvages.proofs.lefts.list_left.Goals as goal

pub loop-preserved : goal.loop-preserved
loop-preserved c =
    let f = blocks_in c.args.known.now.nodes in
    let left = 16 - (c.loop.counter + 1) in
    let more : 16 - c.loop.counter ≡ suc left = let below = c.loop-test.true in omega (arith, below) in
    level_left f (left_of f c.args.root) c.loop.all.items c.append.new.self.items (16 - c.loop.counter) left c.loop.level.items c.in_ok-next.next.items more c.loop.invariant c.in_ok-append.ensures.items (c.in_ok-next.ensures ∙ ap (flat_map (next_left f)) c.deref.ensures.value)

pub returns : goal.returns
returns c =
    let f = blocks_in c.args.known.now.nodes in
    let last : 16 - c.loop.counter ≡ 0 = let past = c.loop-test.false in omega (arith, past) in
    last_left f (left_of f c.args.root) c.loop.all.items c.append-2.new.self.items (16 - c.loop.counter) c.loop.level.items last c.loop.invariant c.in_ok-append-2.ensures.items
