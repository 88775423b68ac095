use Rattle.std.proofs.Common.{◌∙◌, ap, sym}
use Rattle.memory_trees.specs.Maps.{insert_all, tree_of}
use Rattle.memory_trees.proofs.Entries.{insert_all-push, insert_all-empty}
use Rattle.memory_trees.proofs.maps.map_of.Goals as goal

pub loop-path-init : goal.loop-path-init
loop-path-init c = record {
  sorted = c.new-nodes.ensures.ordered;
  made = rw c.new-nodes.ensures.empty (insert_all-empty c.args.entries.items);
}

pub loop-path-preserved : goal.loop-path-preserved
loop-path-preserved c = record {
  sorted = c.put_node.ensures.sorted;
  made =
      ap (insert_all c.pop.new.self.items) c.in_ok-put_node.ensures.made
      ∙ sym (insert_all-push c.pop.new.self.items (c.in-Some.path, c.in-Some.node) (tree_of c.loop-path.nodes.entries))
      ∙ ap (λ es. insert_all es (tree_of c.loop-path.nodes.entries)) (sym c.in-Some.ensures.items)
      ∙ c.loop-path.invariant.made;
}
