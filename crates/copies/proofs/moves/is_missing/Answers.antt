use Rattle.std.proofs.Common.{sym}
use Rattle.history_machine.specs.Machine.{view_tree}
use Rattle.inquiries.specs.Readings.{shown}
use Rattle.updates.proofs.ChangeLemmas.{missing_gone, not_missing, other_left}
use Rattle.copies.proofs.moves.is_missing.Goals as goal

pub returns-in-Missing-clause-ok : goal.returns-in-Missing-clause-ok
returns-in-Missing-clause-ok g c = λ t is.
    sym (missing_gone t (view_tree (shown c.args.fs.now) c.args.other.now) c.args.item.now is c.in_ok-find_counterpart.field-0 c.in_ok-find_counterpart.ensures.ok c.in-Missing.is)

pub returns-in_default-clause-ok : goal.returns-in_default-clause-ok
returns-in_default-clause-ok g c = λ t is.
    sym (other_left t (view_tree (shown c.args.fs.now) c.args.other.now) c.args.item.now is c.in_ok-find_counterpart.field-0 c.in_ok-find_counterpart.ensures.ok (not_missing c.in_ok-find_counterpart.field-0 c.in_default.not-Missing))
