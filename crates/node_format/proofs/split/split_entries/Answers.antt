use Rattle.std.proofs.Common.{arith, sym}
use Rattle.node_format.proofs.DirectoryLaws.{are_spelled}
use Rattle.node_format.proofs.split.split_entries.Goals as goal

pub invariant_of-result : goal.invariant_of-result
invariant_of-result c = are_spelled c.args.count c.args.bytes.now (λ i. omega (arith, c.type_inv.bytes i)) (omega (arith, c.if-count-gt-MOST_ENTRIES.false)) (sym c.in_ok-split.ensures.filled)
