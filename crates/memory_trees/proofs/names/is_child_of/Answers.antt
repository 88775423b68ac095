use Rattle.std.proofs.Common.{◌∙◌, [], ◌∷◌, ◌++◌}
use Rattle.fs_types.proofs.Orders.{path_ties}
use Rattle.memory_trees.proofs.names.is_child_of.Goals as goal

pub returns : goal.returns
returns c = c.is_path_in.ensures ∙ path_ties (c.args.directory.now ++ c.args.name.now ∷ []) c.args.path.now
