use Rattle.plain_trees.proofs.Files.{overwritten_law, resized_law}
use Rattle.plain_trees.proofs.laws_of_plain_trees.file_laws.Goals as goal

pub returns-clause-overwritten : goal.returns-clause-overwritten
returns-clause-overwritten c = overwritten_law

pub returns-clause-resized : goal.returns-clause-resized
returns-clause-resized c = resized_law
