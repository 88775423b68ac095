use Rattle.std.proofs.Common.{arith}
use Rattle.node_format.proofs.BodyFields.{slot_divides}
use Rattle.node_format.proofs.body_nodes.has_slot.Goals as goal

pub returns-clause-has : goal.returns-clause-has
returns-clause-has c = slot_divides c.args.index c.args.slot (omega arith) (omega arith)
