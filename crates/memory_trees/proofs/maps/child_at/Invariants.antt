use Rattle.std.proofs.Common.{◌≡◌, [], ◌∷◌, ◌++◌}
use Rattle.std.specs.Map.{lookup}
use Rattle.std.specs.BTreeMap.{is_at}
use Rattle.fs_types.specs.Names.{path_cmp}
use Rattle.memory_trees.proofs.maps.child_at.Given as goal

abbrev pub invariant-loop-at : goal.invariant-loop-at
invariant-loop-at l = lookup (is_at (path_cmp (l.directory ++ l.name ∷ []))) l.at-iterator ≡ lookup (is_at (path_cmp (l.directory ++ l.name ∷ []))) l.nodes.entries
