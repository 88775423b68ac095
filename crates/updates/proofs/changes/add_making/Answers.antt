use Rattle.std.proofs.Common.{◌≡◌, ◌∙◌, ◌++◌, List, OnOk, inr, sym, ap, subst, append-nil}
use Rattle.std.proofs.lemmas.Result.{IfErr-weaker}
use Rattle.fs_types.specs.declared.call.Call.{Call}
use Rattle.plain_trees.specs.Trees.{bytes_of_file}
use Rattle.history_machine.specs.Machine.{Machine, view_tree, working_tree}
use Rattle.inquiries.specs.Readings.{shown}
use Rattle.updates.specs.Changes.{changed_file}
use Rattle.updates.proofs.ChangeLemmas.{making_changed, making_directory, making_missing}
use Rattle.updates.proofs.changes.add_making.Goals as goal

pub returns-in-Directory-clause-ok : goal.returns-in-Directory-clause-ok
returns-in-Directory-clause-ok g c =
    sym (append-nil c.args.calls.now.items) ∙ ap (λ (l : List Call). c.args.calls.now.items ++ l)
    (sym (making_directory (view_tree (shown c.args.second.now) c.args.view.now) (working_tree (shown c.args.first.now)) c.args.item.now c.requires.there c.in_ok-find_counterpart.field-0 c.in_ok-find_counterpart.ensures.ok c.args.manner c.in-Directory.is))

pub returns-in-File-clause-ok : goal.returns-in-File-clause-ok
returns-in-File-clause-ok g c =
    let p = c.args.item.now.path in
    let t = view_tree (shown c.args.second.now) c.args.view.now in
    let u = working_tree (shown c.args.first.now) in
    let told = subst (λ (m : Machine). OnOk c.add_changed.result (c.add_changed.new.calls.items ≡ c.args.calls.now.items ++ changed_file c.args.manner p (bytes_of_file (working_tree m) p) (bytes_of_file t p))) c.find_counterpart.ensures.same.machine c.add_changed.ensures.ok in
    subst (λ (l : List Call). OnOk c.add_changed.result (c.add_changed.new.calls.items ≡ c.args.calls.now.items ++ l)) (sym (making_changed t u c.args.item.now c.requires.there c.in_ok-find_counterpart.field-0 c.in_ok-find_counterpart.ensures.ok c.args.manner c.in-File.is)) told

pub returns-in-Missing-clause-ok : goal.returns-in-Missing-clause-ok
returns-in-Missing-clause-ok g c =
    let t = view_tree (shown c.args.second.now) c.args.view.now in
    let u = working_tree (shown c.args.first.now) in
    subst (λ (l : List Call). OnOk c.add_new.result (c.add_new.new.calls.items ≡ c.args.calls.now.items ++ l)) (sym (making_missing t u c.args.item.now c.requires.there c.in_ok-find_counterpart.field-0 c.in_ok-find_counterpart.ensures.ok c.args.manner c.in-Missing.is)) c.add_new.ensures.ok

pub returns-in-Missing-clause-err : goal.returns-in-Missing-clause-err
returns-in-Missing-clause-err g c = IfErr-weaker c.add_new.result _ _ (λ fault met. inr met) c.add_new.ensures.err
