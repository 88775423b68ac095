use Rattle.std.proofs.Common.{◌≡◌, ◌++◌, map}
use Rattle.salvages.specs.Lefts.{left_item}
use Rattle.salvages.proofs.lefts.add_entries.Given as goal

-- what the entries that are left bring is left
abbrev pub invariant-loop-entry : goal.invariant-loop-entry
invariant-loop-entry l = l.lefts.items ++ map (left_item l.path) l.entry-iterator ≡ l.fn.lefts.items ++ map (left_item l.path) l.fn.entries
