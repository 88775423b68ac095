use Rattle.tree_edits.proofs.KnownNodes.{known_chain, known_linked, found_from_head, known_digits}
use Rattle.tree_edits.proofs.NodeCalls.{along_wider}
use Rattle.std.proofs.Common.{ℕ, subst}
use Rattle.nodes.specs.Bodies.{IsChain}
use Rattle.tree_edits.proofs.range_reads.find_from.Goals as goal

pub find-requires-clause-chain : goal.find-requires-clause-chain
find-requires-clause-chain g c =
    let f = g.N.Nodes.node c.args.nodes.now in
    let node = c.node_from-node.result in
    subst (λ (r : ℕ). IsChain r f node.index node.block) c.requires.holds.capacity_is
    (known_chain c.args.capacity f c.args.body node (c.node_from-node.ensures.node f c.requires.known) c.requires.some c.requires.holds.whole)

pub find-requires-clause-linked : goal.find-requires-clause-linked
find-requires-clause-linked g c =
    let f = g.N.Nodes.node c.args.nodes.now in
    known_linked c.args.capacity f c.args.body c.node_from-node.result (c.node_from-node.ensures.node f c.requires.known) c.requires.some c.requires.holds.whole

pub returns-clause-found : goal.returns-clause-found
returns-clause-found g c =
    let f = g.N.Nodes.node c.args.nodes.now in
    found_from_head c.args.capacity f c.args.body c.node_from-node.result (c.node_from-node.ensures.node f c.requires.known) c.args.index c.find.result c.node_from-node.ensures.before c.find.ensures.found

pub returns-clause-calls : goal.returns-clause-calls
returns-clause-calls g c =
    let f = g.N.Nodes.node c.args.nodes.now in
    along_wider c.find.ensures.calls (λ digits small. c.find.ensures.calls.reads digits (known_digits c.args.capacity f c.args.body c.node_from-node.result (c.node_from-node.ensures.node f c.requires.known) digits small))
