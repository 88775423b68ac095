use Rattle.std.proofs.Common.{◌≡◌, ◌∙◌, None, sym, ap, subst}
use Rattle.std.proofs.lemmas.Result.{err_from_is_err_and, IfOk-weaker, IfErr-weaker}
use Rattle.std.specs.Bool.{Decides}
use Rattle.history_machine.specs.History.{view_refusal}
use Rattle.history_machine.specs.Machine.{Machine, view_tree}
use Rattle.tree_counts.specs.Sizes.{size_of}
use Rattle.inquiries.specs.Folders.{IsSmall}
use Rattle.inquiries.specs.Readings.{shown}
use Rattle.inquiries.proofs.FolderLemmas.{no_own}
use Rattle.inquiries.proofs.Readings.{unchanged-trans, meets-later}
use Rattle.inquiries.proofs.folders.has_small_tree.Goals as goal

pub returns-in_err-size-clause-err : goal.returns-in_err-size-clause-err
returns-in_err-size-clause-err g c =
    let p = err_from_is_err_and c.from_residual.result c.from_residual.ensures.1 in
    rw (p.1, p.2) (no_own (view_refusal (shown c.args.fs.now).history c.args.view.now) c.in_err-size.field-0.0 _ c.requires c.in_err-size.ensures.err)

pub is_small-requires-clause-view : goal.is_small-requires-clause-view
is_small-requires-clause-view g c = subst (λ (m : Machine). view_refusal m.history c.args.view.now ≡ None) (sym c.size_of_tree.ensures.same.machine) c.requires

pub is_small-requires-clause-size : goal.is_small-requires-clause-size
is_small-requires-clause-size g c = c.in_ok-size.ensures.size ∙ ap (λ (m : Machine). size_of (view_tree m c.args.view.now)) (sym c.size_of_tree.ensures.same.machine)

pub returns-clause-same : goal.returns-clause-same
returns-clause-same g c = unchanged-trans c.args.fs.now c.size_of_tree.new.fs c.is_small.new.fs c.size_of_tree.ensures.same c.is_small.ensures.same

pub returns-clause-ok : goal.returns-clause-ok
returns-clause-ok g c =
    IfOk-weaker c.is_small.result _ _ (λ small decides. subst (λ (m : Machine). Decides small (IsSmall (view_tree m c.args.view.now))) c.size_of_tree.ensures.same.machine decides) c.is_small.ensures.ok

pub returns-clause-err : goal.returns-clause-err
returns-clause-err g c = IfErr-weaker c.is_small.result _ _ (λ fault met. meets-later c.args.fs.now c.size_of_tree.new.fs c.is_small.new.fs fault c.size_of_tree.ensures.same met) c.is_small.ensures.err
