use Rattle.node_format.proofs.OnePass.{IsGoneOver}
use Rattle.node_format.proofs.split.split_filled.Given as goal

abbrev pub invariant-loop-done : goal.invariant-loop-done
invariant-loop-done l = IsGoneOver l.count l.bytes l.name l.done l.before l.rest
