use Rattle.memory_trees.proofs.Entries.{put_made}
use Rattle.memory_trees.proofs.maps.put_node.Goals as goal

pub returns-clause-made : goal.returns-clause-made
returns-clause-made c = put_made _ _ _ _ (c.in_ok-insert.ensures.updates.0)
