use Rattle.std.proofs.Common.{◌≡◌, ◌++◌, List}
use Rattle.std.specs.Option.{option_copied}
use Rattle.node_format.specs.Items.{Item}
use Rattle.directory.specs.Places.{places_after}
use Rattle.directory.proofs.places.push_places.Given as goal

-- the entries that were looked at and those that are left are all of them
abbrev pub invariant-loop-entry : goal.invariant-loop-entry
invariant-loop-entry l = (before : List Item) → l.initial.places ≡ places_after (option_copied l.fn.from) l.fn.most before
    → (done : List Item) × (done ++ l.entry-iterator ≡ before ++ l.fn.list) × (l.places ≡ places_after (option_copied l.fn.from) l.fn.most done)
