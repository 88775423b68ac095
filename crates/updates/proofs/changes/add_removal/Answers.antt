use Rattle.std.proofs.Common.{◌∙◌, ◌++◌, List, sym, ap, append-nil}
use Rattle.history_machine.specs.Machine.{view_tree}
use Rattle.fs_types.specs.declared.call.Call.{Call}
use Rattle.inquiries.specs.Readings.{shown}
use Rattle.updates.proofs.ChangeLemmas.{not_missing, removal_missing, removal_other}
use Rattle.updates.proofs.changes.add_removal.Goals as goal

pub returns-in_ok-push_removal-in-Missing-clause-ok : goal.returns-in_ok-push_removal-in-Missing-clause-ok
returns-in_ok-push_removal-in-Missing-clause-ok g c = λ t is.
    c.in_ok-push_removal-in-Missing.ensures t is
    ∙ ap (λ (l : List Call). c.args.calls.now.items ++ l) (sym (removal_missing t (view_tree (shown c.args.second.now) c.args.view.now) c.args.item.now is c.in_ok-find_counterpart.field-0 c.in_ok-find_counterpart.ensures.ok c.in-Missing.is))

pub returns-in_default-clause-ok : goal.returns-in_default-clause-ok
returns-in_default-clause-ok g c = λ t is.
    let other = not_missing c.in_ok-find_counterpart.field-0 c.in_default.not-Missing in
    sym (append-nil c.args.calls.now.items)
    ∙ ap (λ (l : List Call). c.args.calls.now.items ++ l) (sym (removal_other t (view_tree (shown c.args.second.now) c.args.view.now) c.args.item.now is c.in_ok-find_counterpart.field-0 c.in_ok-find_counterpart.ensures.ok other))
