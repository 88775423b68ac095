use Rattle.plain_trees.proofs.Edits.{put_law, remove_law, move_law, same_tree}
use Rattle.plain_trees.proofs.Shapes.{shape_law}
use Rattle.plain_trees.proofs.laws_of_plain_trees.edit_laws.Goals as goal

pub returns-clause-put : goal.returns-clause-put
returns-clause-put c = put_law

pub returns-clause-remove : goal.returns-clause-remove
returns-clause-remove c = remove_law

pub returns-clause-moved : goal.returns-clause-moved
returns-clause-moved c = move_law

pub returns-clause-same : goal.returns-clause-same
returns-clause-same c = same_tree

pub returns-clause-shapes : goal.returns-clause-shapes
returns-clause-shapes c = shape_law
