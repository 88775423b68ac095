use Rattle.std.proofs.Common.{◌∙◌, [], ◌∷◌, ◌++◌, ap, sym}
use Rattle.std.specs.FinMap.{get}
use Rattle.memory_trees.proofs.Entries.{get_made}
use Rattle.memory_trees.proofs.tree.Tree.get_in.Goals as goal

pub returns : goal.returns
returns c = c.child_at.ensures ∙ sym (get_made c.self.inside.nodes.entries (c.args.directory.now ++ c.args.name.now ∷ [])) ∙ ap (λ t. get t (c.args.directory.now ++ c.args.name.now ∷ [])) c.self.view_is
