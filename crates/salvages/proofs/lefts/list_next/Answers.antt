use Rattle.std.proofs.Common.{[]}
use Rattle.salvages.specs.Lefts.{next_left}
use Rattle.known_nodes.specs.Tables.{blocks_in}
use Rattle.salvages.proofs.Listing.{brings_more}
use Rattle.salvages.proofs.lefts.list_next.Goals as goal

pub loop-left-preserved : goal.loop-left-preserved
loop-left-preserved c =
    brings_more (next_left (blocks_in c.args.known.now.nodes)) c.args.lefts.now c.loop-left.left-index c.left-item.result [] c.loop-left.next.items c.add_next.new.lefts.items c.loop-left-test.true c.left-item.is c.loop-left.invariant c.in_ok-add_next.ensures
