use Rattle.std.proofs.Common.{sym, ◌∙◌}
use Rattle.plain_machine.proofs.Restored.{kept_with}
use Rattle.plain_machine.proofs.parts.history_of.Goals as goal

pub restore-requires : goal.restore-requires
restore-requires c =
    kept_with c.args.versions.items c.deref.result.now c.args.cursor c.args.dropped c.args.next c.args.checkpoints.entries c.args.limit
    (sym c.are_parts.ensures ∙ c.if-not-are_parts.false) (sym c.deref.ensures.value)
