use Rattle.std.proofs.Common.{◌≡◌, ◌++◌}
use Rattle.std.specs.List.{filter_map}
use Rattle.plain_trees.specs.Trees.{child_of}
use Rattle.memory_trees.proofs.maps.children_of.Given as goal

abbrev pub invariant-loop-path : goal.invariant-loop-path
invariant-loop-path l = l.children ++ filter_map (child_of l.directory) l.path-iterator ≡ filter_map (child_of l.directory) l.nodes.entries
