use Rattle.plain_trees.proofs.Grafts.{contents_law, graft_law}
use Rattle.plain_trees.proofs.laws_of_plain_trees.graft_laws.Goals as goal

pub returns-clause-contents : goal.returns-clause-contents
returns-clause-contents c = contents_law

pub returns-clause-grafts : goal.returns-clause-grafts
returns-clause-grafts c = graft_law
