use Rattle.mounting.proofs.Asking.{asks_each}
use Rattle.std.proofs.Common.{[], ◌∷◌}
use Rattle.mounting.proofs.tree_sizes.tree_size_in.Goals as goal

pub returns-clause-asks : goal.returns-clause-asks
returns-clause-asks g c =
    let looks = c.size_of_root.ensures.looks in
    let reads = c.size_of_root.ensures.reads in
    asks_each g.F.Flash.device c.args.store.now c.size_of_root.new.nodes (c.args.root ∷ []) looks.came looks.same_writes (record { blocks = reads.blocks; are = reads.are; most = reads.most })
