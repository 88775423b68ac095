use Rattle.std.proofs.Common.{◌≡◌, ◌++◌}
use Rattle.std.specs.List.{flat_map}
use Rattle.reclaim.specs.Naming.{item_names}
use Rattle.reclaim.proofs.named.push_entries.Given as goal

-- the names so far, and those of the entries that are left
abbrev pub invariant-loop-entry : goal.invariant-loop-entry
invariant-loop-entry l =
    l.out.items ++ flat_map item_names l.entry-iterator ≡ l.initial.out.items ++ flat_map item_names l.fn.entries
