use Rattle.std.proofs.Common.{sym, ◌∙◌}
use Rattle.bad_blocks.proofs.Ascending.{len_of_ascending}
use Rattle.bad_blocks.proofs.set.BadBlocks.len.Goals as goal

pub returns-clause-len : goal.returns-clause-len
returns-clause-len c = c.len.ensures.value ∙ rw (← c.self.view_is) (sym (len_of_ascending _ c.self.invariant))
