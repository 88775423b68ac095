use Rattle.std.proofs.Common.{refl}
use Rattle.node_store.specs.StorageLaws.{none_free}
use Rattle.node_store.proofs.added_nodes.next_block.Goals as goal

pub returns-in-None-clause-full : goal.returns-in-None-clause-full
returns-in-None-clause-full c = (refl, none_free c.args.ring.now c.args.bad.now c.in-None.ensures.first)
