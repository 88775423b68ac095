use Rattle.std.proofs.Common.{◌∙◌, ap, sym}
use Rattle.std.specs.FinMap.{get}
use Rattle.memory_trees.proofs.Entries.{get_made}
use Rattle.memory_trees.proofs.tree.Tree.get.Goals as goal

pub returns : goal.returns
returns c = c.node_at.ensures ∙ sym (get_made c.self.inside.nodes.entries c.args.path.now) ∙ ap (λ t. get t c.args.path.now) c.self.view_is
