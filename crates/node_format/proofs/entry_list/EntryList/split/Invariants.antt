use Rattle.node_format.specs.Directories.{items_at}
use Rattle.node_format.proofs.Passed.{IsPassed}
use Rattle.node_format.proofs.entry_list.EntryList.split.Given as goal

abbrev pub invariant-loop-done : goal.invariant-loop-done
invariant-loop-done l = IsPassed (items_at l.count l.bytes) l.count l.bytes l.name l.done l.rest
