use Rattle.record_format.proofs.Appends.{then_three}
use Rattle.record_format.proofs.writing.push_sizes.Goals as goal

pub returns-clause-items : goal.returns-clause-items
returns-clause-items c =
    then_three _ _ _ _ _ _ _ c.put_u32.ensures.items c.put_u32-2.ensures.items c.put_u32-3.ensures.items
