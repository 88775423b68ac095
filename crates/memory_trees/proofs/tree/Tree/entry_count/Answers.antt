use Rattle.std.proofs.Common.{◌∙◌, ap, sym, length}
use Rattle.memory_trees.proofs.Entries.{children_made, count_of_children}
use Rattle.memory_trees.proofs.tree.Tree.entry_count.Goals as goal

pub returns : goal.returns
returns c =
    c.count_children.ensures ∙ sym (count_of_children c.args.path.now c.self.inside.nodes.entries)
    ∙ sym (ap length (children_made c.self.inside.nodes.entries c.args.self.now c.self.invariant c.self.view_is c.args.path.now))
