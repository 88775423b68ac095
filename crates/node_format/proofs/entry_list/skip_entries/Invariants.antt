use Rattle.node_format.proofs.Known.{IsSkipped}
use Rattle.node_format.proofs.entry_list.skip_entries.Given as goal

abbrev pub invariant-loop : goal.invariant-loop
invariant-loop l = IsSkipped l.count l.bytes l.counter l.rest
