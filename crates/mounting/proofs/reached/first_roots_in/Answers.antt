use Rattle.std.proofs.Common.{◌+◌, arith}
use Rattle.mounting.proofs.Asking.{asks_each}
use Rattle.mounting.proofs.reached.first_roots_in.Goals as goal

pub returns-clause-asks : goal.returns-clause-asks
returns-clause-asks g c =
    let looks = c.find_first_roots.ensures.looks in
    let reads = c.find_first_roots.ensures.reads in
    asks_each g.F.Flash.device c.args.store.now c.find_first_roots.new.nodes c.args.roots.now looks.came looks.same_writes (record { blocks = reads.blocks; are = reads.are; most = omega (arith, reads.most) })
