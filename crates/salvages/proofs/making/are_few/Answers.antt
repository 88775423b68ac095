use Rattle.std.proofs.Common.{◌<◌, sym, arith}
use Rattle.std.proofs.lemmas.Bool.{lt-leb}
use Rattle.std.specs.Prelude.{sum_by}
use Rattle.salvages.specs.Lefts.{size_of}
use Rattle.known_nodes.specs.Tables.{blocks_in}
use Rattle.salvages.proofs.Listing.{sums_past}
use Rattle.salvages.proofs.making.are_few.Goals as goal

pub returns-then-size-left_over : goal.returns-then-size-left_over
returns-then-size-left_over c =
    let g = size_of c.args.known.now.capacity (blocks_in c.args.known.now.nodes) in
    let lefts = c.args.lefts.now in
    let past : c.loop-left.left_over < g c.left-item.result = let more = c.if-size-left_over.true in let own = c.size_of-size.ensures in omega (arith, more, own) in
    sym (lt-leb (sum_by g lefts) 67108864 (sums_past g lefts c.loop-left.left-index 67108864 c.loop-left.left_over c.left-item.result c.loop-left-test.true c.left-item.is c.loop-left.invariant past))
