use Rattle.std.proofs.Common.{◌≡◌, ◌++◌}
use Rattle.nodes.specs.Trees.{names_of}
use Rattle.directory.proofs.listings.push_names.Given as goal

-- the names so far and those of the entries left are all of them
abbrev pub invariant-loop-entry : goal.invariant-loop-entry
invariant-loop-entry l = l.names ++ names_of l.entry-iterator ≡ l.initial.names ++ names_of l.fn.list
