use Rattle.directory.proofs.FrontReads.{asks_within}
use Rattle.directory.proofs.place_stats.stats.Goals as goal

pub returns-in_err-stat-clause-asks : goal.returns-in_err-stat-clause-asks
returns-in_err-stat-clause-asks g c =
    asks_within (g.N.Nodes.node c.args.nodes.now) (g.N.Nodes.node c.loop-name.nodes) c.args.places.now c.loop-name.name-index c.loop-name-item.result (g.N.Nodes.asked c.args.nodes.now) (g.N.Nodes.asked c.loop-name.nodes) (g.N.Nodes.asked c.stat_of.new.nodes)
    c.loop-name.invariant.looks.same_nodes c.loop-name-test.true c.loop-name-item.is c.loop-name.invariant.asks c.stat_of.ensures.asks

pub returns-in_err-clone-clause-asks : goal.returns-in_err-clone-clause-asks
returns-in_err-clone-clause-asks g c =
    asks_within (g.N.Nodes.node c.args.nodes.now) (g.N.Nodes.node c.loop-name.nodes) c.args.places.now c.loop-name.name-index c.loop-name-item.result (g.N.Nodes.asked c.args.nodes.now) (g.N.Nodes.asked c.loop-name.nodes) (g.N.Nodes.asked c.stat_of.new.nodes)
    c.loop-name.invariant.looks.same_nodes c.loop-name-test.true c.loop-name-item.is c.loop-name.invariant.asks c.stat_of.ensures.asks

pub returns-in_err-push-clause-asks : goal.returns-in_err-push-clause-asks
returns-in_err-push-clause-asks g c =
    asks_within (g.N.Nodes.node c.args.nodes.now) (g.N.Nodes.node c.loop-name.nodes) c.args.places.now c.loop-name.name-index c.loop-name-item.result (g.N.Nodes.asked c.args.nodes.now) (g.N.Nodes.asked c.loop-name.nodes) (g.N.Nodes.asked c.stat_of.new.nodes)
    c.loop-name.invariant.looks.same_nodes c.loop-name-test.true c.loop-name-item.is c.loop-name.invariant.asks c.stat_of.ensures.asks
