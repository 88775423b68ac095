use Rattle.inquiries.proofs.Entries.{view-file_tree}
use Rattle.program_laws.proofs.Trees.{tree_law, path_order}
use Rattle.program_laws.proofs.laws_of_inquiries.tree_laws.Goals as goal

pub returns-clause-tree : goal.returns-clause-tree
returns-clause-tree c = tree_law

pub returns-clause-order : goal.returns-clause-order
returns-clause-order c = path_order

pub returns-clause-views : goal.returns-clause-views
returns-clause-views c = view-file_tree
