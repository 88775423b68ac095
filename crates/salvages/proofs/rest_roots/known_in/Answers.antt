use Rattle.std.proofs.Common.{◌∙◌, ap, arith}
use Rattle.nodes.specs.Bodies.{Blocks}
use Rattle.node_store.specs.NodeLaws.{node_of-beyond}
use Rattle.salvages.proofs.rest_roots.known_in.Goals as goal

pub of-requires-clause-all : goal.of-requires-clause-all
of-requires-clause-all g c = λ b past.
    let d = g.F.Flash.device c.args.store.now.flash.now in
    let same = c.read.ensures.looks.same_blocks in
    let count = c.block_count.ensures in
    ap (λ (f : Blocks). f b) c.in_ok-table.ensures.table ∙ node_of-beyond d b (omega (arith, past, same, count))
