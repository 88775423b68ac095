use Rattle.std.proofs.Common.{arith}
use Rattle.machine_state.proofs.HistoryChanges.{grown_kept, trimmed_kept}
use Rattle.machine_state.proofs.histories.History.push.Goals as goal

pub invariant_of-self : goal.invariant_of-self
invariant_of-self g c =
    let h = c.self.invariant.0 in
    (rw (c.drop_oldest.ensures.items, c.push_reserved.ensures.items, c.truncate.ensures.items) (trimmed_kept _ c.args.root h (omega (arith, h.lawful.cursor_in))), omega arith)

pub invariant_of-self-else-len-self : goal.invariant_of-self-else-len-self
invariant_of-self-else-len-self g c =
    let h = c.self.invariant.0 in
    (rw (c.push_reserved.ensures.items, c.truncate.ensures.items) (grown_kept _ c.args.root h (omega (arith, h.lawful.cursor_in))), omega arith)
