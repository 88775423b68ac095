use Rattle.std.proofs.Common.{◌≡◌, ◌∙◌, None, length, inl, inr, sym, ap, subst}
use Rattle.std.proofs.lemmas.Bool.{true≢false}
use Rattle.std.proofs.lemmas.Result.{err_from_is_err_and}
use Rattle.history_machine.specs.History.{view_refusal}
use Rattle.history_machine.specs.Machine.{Machine, view_tree}
use Rattle.tree_counts.specs.Sizes.{size_of}
use Rattle.inquiries.specs.Items.{items_of}
use Rattle.inquiries.specs.Listable.{IsListable}
use Rattle.inquiries.specs.Readings.{shown}
use Rattle.inquiries.specs.declared.tell_fault.TheConstants.{MAX_LINES}
use Rattle.inquiries.proofs.Readings.{fails-later, meets-later, unchanged-trans}
use Rattle.inquiries.proofs.Sizes.{many_tested}
use Rattle.inquiries.proofs.inquiry.few_items.Goals as goal

pub returns-in_err-size-clause-err : goal.returns-in_err-size-clause-err
returns-in_err-size-clause-err g c =
    let p = err_from_is_err_and c.from_residual.result c.from_residual.ensures.1 in
    rw (p.1, p.2) c.in_err-size.ensures.err

pub returns-then-not-is_few-clause-err : goal.returns-then-not-is_few-clause-err
returns-then-not-is_few-clause-err g c =
    let t = view_tree (shown c.args.fs.now) c.args.view.now in
    (c.in_ok-size.ensures.accepted, inl (many_tested c.is_few.result (length (items_of t)) MAX_LINES c.if-not-is_few.true (c.is_few.ensures t c.in_ok-size.ensures.size)))

pub is_listable-requires-clause-view : goal.is_listable-requires-clause-view
is_listable-requires-clause-view g c = subst (λ (m : Machine). view_refusal m.history c.args.view.now ≡ None) (sym c.size_of_tree.ensures.same.machine) c.in_ok-size.ensures.accepted

pub is_listable-requires-clause-size : goal.is_listable-requires-clause-size
is_listable-requires-clause-size g c = c.in_ok-size.ensures.size ∙ ap (λ (m : Machine). size_of (view_tree m c.args.view.now)) (sym c.size_of_tree.ensures.same.machine)

pub returns-in_err-listable-clause-same : goal.returns-in_err-listable-clause-same
returns-in_err-listable-clause-same g c = unchanged-trans c.args.fs.now c.size_of_tree.new.fs c.is_listable.new.fs c.size_of_tree.ensures.same c.is_listable.ensures.same

pub returns-in_err-listable-clause-err : goal.returns-in_err-listable-clause-err
returns-in_err-listable-clause-err g c =
    let p = err_from_is_err_and c.from_residual-in_err-listable.result c.from_residual-in_err-listable.ensures.1 in
    rw (p.1, p.2) (inr (meets-later c.args.fs.now c.size_of_tree.new.fs c.is_listable.new.fs c.in_err-listable.field-0.0 c.size_of_tree.ensures.same c.in_err-listable.ensures.err))

pub returns-then-not-listable-clause-same : goal.returns-then-not-listable-clause-same
returns-then-not-listable-clause-same g c = unchanged-trans c.args.fs.now c.size_of_tree.new.fs c.is_listable.new.fs c.size_of_tree.ensures.same c.is_listable.ensures.same

pub returns-then-not-listable-clause-err : goal.returns-then-not-listable-clause-err
returns-then-not-listable-clause-err g c = (
  c.in_ok-size.ensures.accepted,
  inr (λ listable. true≢false (sym (c.in_ok-listable.ensures.ok.1 (subst (λ (m : Machine). IsListable (view_tree m c.args.view.now)) (sym c.size_of_tree.ensures.same.machine) listable)) ∙ c.if-not-listable.true)),
)

pub returns-in_err-items_of-clause-same : goal.returns-in_err-items_of-clause-same
returns-in_err-items_of-clause-same g c =
    unchanged-trans c.args.fs.now c.size_of_tree.new.fs c.items_of.new.fs c.size_of_tree.ensures.same
    (unchanged-trans c.size_of_tree.new.fs c.is_listable.new.fs c.items_of.new.fs c.is_listable.ensures.same c.items_of.ensures.same)

pub returns-in_err-items_of-clause-err : goal.returns-in_err-items_of-clause-err
returns-in_err-items_of-clause-err g c =
    let p = err_from_is_err_and c.from_residual-in_err-items_of.result c.from_residual-in_err-items_of.ensures.1 in
    rw (p.1, p.2) (fails-later (λ (m : Machine). view_refusal m.history c.args.view.now) c.args.fs.now c.is_listable.new.fs c.items_of.new.fs c.in_err-items_of.field-0.0
    (unchanged-trans c.args.fs.now c.size_of_tree.new.fs c.is_listable.new.fs c.size_of_tree.ensures.same c.is_listable.ensures.same) c.in_err-items_of.ensures.err)

pub returns-clause-same : goal.returns-clause-same
returns-clause-same g c =
    unchanged-trans c.args.fs.now c.size_of_tree.new.fs c.items_of.new.fs c.size_of_tree.ensures.same
    (unchanged-trans c.size_of_tree.new.fs c.is_listable.new.fs c.items_of.new.fs c.is_listable.ensures.same c.items_of.ensures.same)

pub returns-clause-few : goal.returns-clause-few
returns-clause-few g c =
    let t = view_tree (shown c.args.fs.now) c.args.view.now in
    inr (
      (c.is_few.ensures t c.in_ok-size.ensures.size).0 c.if-not-is_few.false,
      subst (λ (m : Machine). IsListable (view_tree m c.args.view.now)) c.size_of_tree.ensures.same.machine (c.in_ok-listable.ensures.ok.0 c.if-not-listable.false),
    )
