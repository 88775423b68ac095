use Rattle.std.proofs.Common.{◌≡◌, ◌++◌}
use Rattle.std.specs.Prelude.{map}
use Rattle.reclaim.proofs.looks.push_places_of.Given as goal

-- the places so far, and those of the entries that are left
abbrev pub invariant-loop-entry : goal.invariant-loop-entry
invariant-loop-entry l =
    l.out.items ++ map (λ item. item.place) l.entry-iterator ≡ l.initial.out.items ++ map (λ item. item.place) l.fn.entries
