use Rattle.std.proofs.Common.{◌≡◌, ◌++◌, length, false}
use Rattle.std.specs.List.{filter_map, list_any}
use Rattle.std.specs.Map.{keys_of}
use Rattle.plain_trees.specs.Trees.{moved_entry}
use Rattle.memory_trees.specs.Paths.{is_deep}
use Rattle.memory_trees.proofs.maps.moved_entries.Given as goal

abbrev pub invariant-loop-path : goal.invariant-loop-path
invariant-loop-path l = record {
  moved : l.entries.items ++ filter_map (moved_entry l.old l.new) l.path-iterator ≡ filter_map (moved_entry l.old l.new) l.nodes.entries;
  shallow : list_any (is_deep l.old (length l.new)) (keys_of l.path-iterator) ≡ false;
}
