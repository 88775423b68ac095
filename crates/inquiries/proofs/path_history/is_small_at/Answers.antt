use Rattle.std.proofs.Common.{◌≡◌, ◌∙◌, None, Some, sym, ap, subst}
use Rattle.std.proofs.lemmas.Result.{IfOk-weaker, IfErr-weaker}
use Rattle.std.specs.Bool.{Decides}
use Rattle.history_machine.specs.History.{view_refusal}
use Rattle.history_machine.specs.Machine.{Machine, view_tree}
use Rattle.inquiries.specs.Folders.{IsSmall}
use Rattle.inquiries.specs.Readings.{shown}
use Rattle.inquiries.proofs.PathLemmas.{small_directory, small_elsewhere}
use Rattle.inquiries.proofs.Readings.{unchanged-trans, meets-later}
use Rattle.inquiries.proofs.path_history.is_small_at.Goals as goal

pub has_small_tree-requires : goal.has_small_tree-requires
has_small_tree-requires g c = subst (λ (m : Machine). view_refusal m.history c.args.view.now ≡ None) (sym c.stat_if_there.ensures.same.machine) c.requires

pub returns-in-Some-Dir-clause-same : goal.returns-in-Some-Dir-clause-same
returns-in-Some-Dir-clause-same g c = unchanged-trans c.args.fs.now c.stat_if_there.new.fs c.has_small_tree.new.fs c.stat_if_there.ensures.same c.has_small_tree.ensures.same

pub returns-in-Some-Dir-clause-ok : goal.returns-in-Some-Dir-clause-ok
returns-in-Some-Dir-clause-ok g c =
    let t = view_tree (shown c.args.fs.now) c.args.view.now in
    IfOk-weaker c.has_small_tree.result _ _
    (λ small decides. small_directory t c.args.path.now c.in_ok-stat_if_there.field-0 c.in-Some-Dir.field-0-0 small c.in_ok-stat_if_there.ensures.ok (c.in-Some-Dir.is ∙ ap Some c.in-Some-Dir.field-0-is)
    (subst (λ (m : Machine). Decides small (IsSmall (view_tree m c.args.view.now))) c.stat_if_there.ensures.same.machine decides)) c.has_small_tree.ensures.ok

pub returns-in-Some-Dir-clause-err : goal.returns-in-Some-Dir-clause-err
returns-in-Some-Dir-clause-err g c = IfErr-weaker c.has_small_tree.result _ _ (λ fault met. meets-later c.args.fs.now c.stat_if_there.new.fs c.has_small_tree.new.fs fault c.stat_if_there.ensures.same met) c.has_small_tree.ensures.err

pub returns-in-Some-File-clause-ok : goal.returns-in-Some-File-clause-ok
returns-in-Some-File-clause-ok g c =
    small_elsewhere (view_tree (shown c.args.fs.now) c.args.view.now) c.args.path.now c.in_ok-stat_if_there.field-0 c.in_ok-stat_if_there.ensures.ok
    (λ n wrong. let file = sym (c.in-Some-File.is ∙ ap Some c.in-Some-File.field-0-is) ∙ wrong in absurd cc)

pub returns-in-None-clause-ok : goal.returns-in-None-clause-ok
returns-in-None-clause-ok g c =
    small_elsewhere (view_tree (shown c.args.fs.now) c.args.view.now) c.args.path.now c.in_ok-stat_if_there.field-0 c.in_ok-stat_if_there.ensures.ok
    (λ n wrong. let none = sym c.in-None.is ∙ wrong in absurd cc)
