use Rattle.std.proofs.Common.{sym}
use Rattle.bad_blocks.proofs.Ascending.{len_of_ascending}
use Rattle.bad_blocks.proofs.set.BadBlocks.iter.Goals as goal

pub returns-clause-len : goal.returns-clause-len
returns-clause-len c =
    rw (c.iter.ensures.rest, c.deref.ensures.0, ← c.self.view_is) (sym (len_of_ascending _ c.self.invariant))
