use Rattle.nodes.proofs.MovedTrees.{move_law, rename_law}
use Rattle.nodes.proofs.TooDeep.{depth_law}
use Rattle.nodes.proofs.laws_of_block_trees.move_laws.Goals as goal

pub returns-clause-moves : goal.returns-clause-moves
returns-clause-moves c = move_law

pub returns-clause-renamed : goal.returns-clause-renamed
returns-clause-renamed c = rename_law

pub returns-clause-depth : goal.returns-clause-depth
returns-clause-depth c = depth_law
