use Rattle.std.proofs.Common.{◌≡◌, ◌∙◌, None, map, sym, subst, arith}
use Rattle.std.proofs.lemmas.Result.{err_from_is_err_and, IfErr-weaker}
use Rattle.std.specs.Prelude.{All, IfOk, IsSome}
use Rattle.std.specs.FinMap.{get}
use Rattle.fs_types.specs.declared.limits.TheConstants.{MAX_NAMES}
use Rattle.history_machine.specs.History.{view_refusal}
use Rattle.history_machine.specs.Machine.{Machine, view_tree}
use Rattle.inquiries.specs.Items.{item_at}
use Rattle.inquiries.specs.Readings.{shown}
use Rattle.inquiries.proofs.DifferenceLemmas.{all_there}
use Rattle.inquiries.proofs.FolderLemmas.{no_own}
use Rattle.inquiries.proofs.Readings.{unchanged-trans, meets-later}
use Rattle.inquiries.proofs.pruned.items_at.Goals as goal

pub items_among-requires-clause-known : goal.items_among-requires-clause-known
items_among-requires-clause-known g c = λ k d within. absurd (omega arith)

pub returns-in_err-all-clause-err : goal.returns-in_err-all-clause-err
returns-in_err-all-clause-err g c =
    let p = err_from_is_err_and c.from_residual.result c.from_residual.ensures.1 in
    rw (p.1, p.2) (no_own (view_refusal (shown c.args.fs.now).history c.args.view.now) c.in_err-all.field-0.0 _ c.requires.view c.in_err-all.ensures.err)

pub items_among-requires-2-clause-view : goal.items_among-requires-2-clause-view
items_among-requires-2-clause-view g c = subst (λ (m : Machine). view_refusal m.history c.args.view.now ≡ None) (sym c.items_of.ensures.same.machine) c.requires.view

pub items_among-requires-2-clause-known : goal.items_among-requires-2-clause-known
items_among-requires-2-clause-known g c =
    all_there (shown c.args.fs.now) (shown c.items_of.new.fs) c.args.view.now MAX_NAMES _ c.deref.result.now c.items_of.ensures.same.machine (c.deref.ensures.value ∙ c.in_ok-all.ensures.ok)

pub items_among-requires-2-clause-there : goal.items_among-requires-2-clause-there
items_among-requires-2-clause-there g c = subst (λ (m : Machine). All (λ path. IsSome (get (view_tree m c.args.view.now) path)) c.args.paths.now) (sym c.items_of.ensures.same.machine) c.requires.there

pub returns-clause-same : goal.returns-clause-same
returns-clause-same g c = unchanged-trans c.args.fs.now c.items_of.new.fs c.items_among-2.new.fs c.items_of.ensures.same c.items_among-2.ensures.same

pub returns-clause-ok : goal.returns-clause-ok
returns-clause-ok g c =
    subst (λ (m : Machine). IfOk c.items_among-2.result (λ items. items.items ≡ map (item_at (view_tree m c.args.view.now)) c.args.paths.now)) c.items_of.ensures.same.machine c.items_among-2.ensures.ok

pub returns-clause-err : goal.returns-clause-err
returns-clause-err g c = IfErr-weaker c.items_among-2.result _ _ (λ fault met. meets-later c.args.fs.now c.items_of.new.fs c.items_among-2.new.fs fault c.items_of.ensures.same met) c.items_among-2.ensures.err
