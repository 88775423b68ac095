use Rattle.nodes.proofs.Chained.{reached_chain, entry_named, child_names}
use Rattle.nodes.proofs.Reaching.{reached_from}
use Rattle.nodes.proofs.laws_of_block_trees.reaching_laws.Goals as goal

pub returns-clause-nodes : goal.returns-clause-nodes
returns-clause-nodes c = reached_chain

pub returns-clause-entries : goal.returns-clause-entries
returns-clause-entries c = entry_named

pub returns-clause-named : goal.returns-clause-named
returns-clause-named c = child_names

pub returns-clause-only : goal.returns-clause-only
returns-clause-only c = reached_from
