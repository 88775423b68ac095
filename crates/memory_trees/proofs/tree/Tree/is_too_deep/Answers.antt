use Rattle.std.proofs.Common.{◌∙◌, sym}
use Rattle.memory_trees.proofs.Entries.{deep_made}
use Rattle.memory_trees.proofs.tree.Tree.is_too_deep.Goals as goal

pub returns : goal.returns
returns c =
    c.any_deep.ensures ∙ sym (deep_made c.self.inside.nodes.entries c.args.self.now c.self.invariant c.self.view_is c.args.old.now c.args.new.now)
