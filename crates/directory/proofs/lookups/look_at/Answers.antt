use Rattle.std.proofs.Common.{length, sym, ap, arith}
use Rattle.node_format.proofs.LinkLaws.{link_filled}
use Rattle.directory.proofs.lookups.look_at.Goals as goal

pub returns-clause-few : goal.returns-clause-few
returns-clause-few g c =
    let filled = link_filled c.lent.result.now c.in-Some.node (sym c.in-Some.ensures.exact) in
    omega (arith, filled.few, c.len-count.ensures, ap length c.list.ensures)
