use Rattle.node_format.proofs.Parts.{nothing_spelled}
use Rattle.node_format.proofs.spelled.Spelled.new.Goals as goal

pub invariant_of-result : goal.invariant_of-result
invariant_of-result c = (nothing_spelled c.new.result.items c.new.ensures.items).spelled

pub returns : goal.returns
returns c = (nothing_spelled c.new.result.items c.new.ensures.items).read
