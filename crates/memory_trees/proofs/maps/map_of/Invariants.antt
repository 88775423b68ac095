use Rattle.std.proofs.Common.{◌≡◌, vec_len}
use Rattle.std.specs.Map.{keys_of}
use Rattle.std.specs.List.Sorted.{IsStrictlySortedBy}
use Rattle.fs_types.specs.Names.{path_cmp}
use Rattle.memory_trees.specs.Maps.{insert_all, tree_of}
use Rattle.memory_trees.proofs.maps.map_of.Given as goal

abbrev pub decreases-loop-path : goal.decreases-loop-path
decreases-loop-path l = vec_len l.rest

abbrev pub invariant-loop-path : goal.invariant-loop-path
invariant-loop-path l = record {
  sorted : IsStrictlySortedBy path_cmp (keys_of l.nodes.entries);
  made : insert_all l.rest.items (tree_of l.nodes.entries) ≡ tree_of l.fn.entries.items;
}
