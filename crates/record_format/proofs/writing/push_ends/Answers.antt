use Rattle.record_format.proofs.Appends.{then_four}
use Rattle.record_format.proofs.writing.push_ends.Goals as goal

pub returns-clause-items : goal.returns-clause-items
returns-clause-items c =
    then_four _ _ _ _ _ _ _ _ _ c.put_u16.ensures.items c.put_u16-2.ensures.items c.put_u64.ensures.items c.put_u32.ensures.items
