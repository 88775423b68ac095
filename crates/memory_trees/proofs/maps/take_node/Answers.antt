use Rattle.memory_trees.proofs.Entries.{remove_made}
use Rattle.memory_trees.proofs.maps.take_node.Goals as goal

pub returns-clause-made : goal.returns-clause-made
returns-clause-made c = remove_made _ _ _ (c.remove.ensures.updates.0)
