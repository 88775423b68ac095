use Rattle.mounting.proofs.Asking.{asks_each}
use Rattle.stored_sizes.proofs.stored.sizes_in.Goals as goal

pub returns-clause-asks : goal.returns-clause-asks
returns-clause-asks g c =
    let looks = c.sizes_of_roots.ensures.looks in
    let reads = c.sizes_of_roots.ensures.reads in
    asks_each g.F.Flash.device c.args.store.now c.sizes_of_roots.new.nodes c.args.roots.now looks.came looks.same_writes (record { blocks = reads.blocks; are = reads.are; most = reads.most })
