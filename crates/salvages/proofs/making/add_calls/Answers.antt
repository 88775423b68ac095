use Rattle.salvages.specs.Lefts.{made_of}
use Rattle.known_nodes.specs.Tables.{blocks_in}
use Rattle.salvages.proofs.Listing.{brings_more}
use Rattle.salvages.proofs.making.add_calls.Goals as goal

pub loop-left-preserved : goal.loop-left-preserved
loop-left-preserved c =
    brings_more (made_of c.args.known.now.capacity (blocks_in c.args.known.now.nodes)) c.args.lefts.now c.loop-left.left-index c.left-item.result c.args.calls.now.items c.loop-left.calls.items c.add_call.new.calls.items c.loop-left-test.true c.left-item.is c.loop-left.invariant
    c.in_ok-add_call.ensures
