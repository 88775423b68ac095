use Rattle.std.proofs.Common.{◌∙◌, sym, ap}
use Rattle.memory_trees.specs.Maps.{tree_of}
use Rattle.memory_trees.proofs.Entries.{deep_made, move_made}
use Rattle.memory_trees.proofs.tree.Tree.move_tree.Goals as goal

pub moved_entries-requires-clause-shallow : goal.moved_entries-requires-clause-shallow
moved_entries-requires-clause-shallow c = sym (deep_made c.self.inside.nodes.entries c.args.self.now c.self.invariant c.self.view_is c.args.old.now c.args.new.now) ∙ c.requires.shallow

pub returns : goal.returns
returns c =
    c.in_ok-map_of.ensures.made ∙ ap tree_of c.in_ok-entries.ensures
    ∙ sym (move_made c.self.inside.nodes.entries c.args.self.now c.self.invariant c.self.view_is c.args.old.now c.args.new.now)
