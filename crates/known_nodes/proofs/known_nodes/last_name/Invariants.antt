use Rattle.std.proofs.Common.{◌≡◌, []}
use Rattle.reclaim.specs.Looks.{last_name}
use Rattle.known_nodes.proofs.known_nodes.last_name.Given as goal

-- the last name so far, before the entries that are left
abbrev pub invariant-loop-entry : goal.invariant-loop-entry
invariant-loop-entry l = last_name l.last l.entry-iterator ≡ last_name [] l.fn.entries
