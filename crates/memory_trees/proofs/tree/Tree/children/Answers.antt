use Rattle.memory_trees.proofs.Entries.{children_made}
use Rattle.memory_trees.proofs.tree.Tree.children.Goals as goal

pub returns : goal.returns
returns c = rw (children_made c.self.inside.nodes.entries c.args.self.now c.self.invariant c.self.view_is c.args.path.now) c.children_of.ensures
