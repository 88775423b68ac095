use Rattle.std.proofs.Common.{arith, sym, ◌∙◌}
use Rattle.node_format.proofs.DirectoryLaws.{filled_spelled}
use Rattle.node_format.proofs.entry_list.filled_list.Goals as goal

pub invariant_of-result : goal.invariant_of-result
invariant_of-result c = filled_spelled c.args.count c.args.first.now c.args.bytes.now (λ i. omega (arith, c.type_inv.bytes i)) c.requires (sym c.is_filled.ensures ∙ c.if-is_filled.true)
