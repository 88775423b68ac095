use Rattle.std.proofs.Common.{◌≡◌, ◌-◌}
use Rattle.node_format.specs.Directories.{are_filled}
use Rattle.node_format.proofs.entry_list.is_filled.Given as goal

abbrev pub invariant-loop : goal.invariant-loop
invariant-loop l = are_filled (l.count - l.counter) l.before l.rest ≡ are_filled l.count l.first l.bytes
