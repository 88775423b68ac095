use Rattle.std.proofs.Common.{◌≡◌, ◌∙◌, ◌++◌, ◌∷◌, [], None, List, sym, ap, subst, arith}
use Rattle.std.proofs.lemmas.List.{take_all}
use Rattle.std.proofs.lemmas.Result.{err_from_is_err_and}
use Rattle.history_machine.specs.History.{view_refusal}
use Rattle.history_machine.specs.Machine.{Machine, view_tree}
use Rattle.inquiries.specs.Readings.{shown}
use Rattle.inquiries.specs.declared.items.Item.{Item}
use Rattle.inquiries.proofs.DifferenceLemmas.{item_there}
use Rattle.inquiries.proofs.Readings.{unchanged-refl, unchanged-trans, meets-later}
use Rattle.copies.specs.Found.{look_at, looks_of}
use Rattle.copies.proofs.Finding.{looks_more}
use Rattle.copies.proofs.moves.list_looks.Goals as goal

pub loop-item-init : goal.loop-item-init
loop-item-init g c = (unchanged-refl c.args.fs.now, c.new-looks.ensures.items)

pub add_look-requires-clause-view : goal.add_look-requires-clause-view
add_look-requires-clause-view g c = subst (λ (m : Machine). view_refusal m.history c.args.view.now ≡ None) (sym c.loop-item.invariant.0.machine) c.requires.view

pub add_look-requires-clause-there : goal.add_look-requires-clause-there
add_look-requires-clause-there g c =
    item_there (shown c.args.fs.now) (shown c.loop-item.fs) c.args.view.now c.args.items.now c.loop-item.item-index c.item-item.result c.loop-item.invariant.0.machine c.requires.there c.loop-item-test.true c.item-item.is

pub returns-in_err-add_look-clause-same : goal.returns-in_err-add_look-clause-same
returns-in_err-add_look-clause-same g c = unchanged-trans c.args.fs.now c.loop-item.fs c.add_look.new.fs c.loop-item.invariant.0 c.add_look.ensures.same

pub returns-in_err-add_look-clause-err : goal.returns-in_err-add_look-clause-err
returns-in_err-add_look-clause-err g c =
    let p = err_from_is_err_and c.from_residual.result c.from_residual.ensures.1 in
    rw (p.1, p.2) (meets-later c.args.fs.now c.loop-item.fs c.add_look.new.fs c.in_err-add_look.field-0.0 c.loop-item.invariant.0 c.in_err-add_look.ensures.err)

pub loop-item-preserved : goal.loop-item-preserved
loop-item-preserved g c =
    let v = c.args.view.now in
    let t = view_tree (shown c.args.fs.now) v in
    let one : c.add_look.new.looks.items ≡ c.loop-item.looks.items ++ look_at t c.item-item.result ∷ [] =
    subst (λ (m : Machine). c.add_look.new.looks.items ≡ c.loop-item.looks.items ++ look_at (view_tree m v) c.item-item.result ∷ []) c.loop-item.invariant.0.machine c.in_ok-add_look.ensures.ok in (
      unchanged-trans c.args.fs.now c.loop-item.fs c.add_look.new.fs c.loop-item.invariant.0 c.add_look.ensures.same,
      looks_more t c.args.items.now c.loop-item.item-index c.item-item.result c.loop-item.looks.items c.add_look.new.looks.items c.loop-item-test.true c.item-item.is c.loop-item.invariant.1 one,
    )

pub returns-clause-ok : goal.returns-clause-ok
returns-clause-ok g c =
    let past = c.loop-item-test.false in
    c.loop-item.invariant.1 ∙ ap (λ (xs : List Item). looks_of (view_tree (shown c.args.fs.now) c.args.view.now) xs) (take_all c.loop-item.item-index c.args.items.now (omega (arith, past)))
