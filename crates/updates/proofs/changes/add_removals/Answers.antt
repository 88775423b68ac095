use Rattle.std.proofs.Common.{◌≡◌, ◌∙◌, ◌++◌, None, List, take, sym, ap, subst, append-nil, arith}
use Rattle.std.proofs.lemmas.List.{take_all}
use Rattle.std.proofs.lemmas.Result.{err_from_is_err_and}
use Rattle.std.specs.List.{flat_map}
use Rattle.history_machine.specs.History.{view_refusal}
use Rattle.history_machine.specs.Machine.{Machine, view_tree}
use Rattle.inquiries.specs.Items.{IsItemOf}
use Rattle.inquiries.specs.Readings.{shown}
use Rattle.inquiries.specs.declared.items.Item.{Item}
use Rattle.inquiries.proofs.Readings.{unchanged-refl, unchanged-trans, meets-later}
use Rattle.updates.specs.Changes.{removal_of}
use Rattle.updates.proofs.ChangeLemmas.{items_more}
use Rattle.updates.proofs.changes.add_removals.Goals as goal

pub loop-item-init : goal.loop-item-init
loop-item-init g c = (unchanged-refl c.args.second.now, λ t all. sym (append-nil c.args.calls.now.items))

pub add_removal-requires : goal.add_removal-requires
add_removal-requires g c = subst (λ (m : Machine). view_refusal m.history c.args.view.now ≡ None) (sym c.loop-item.invariant.0.machine) c.requires

pub returns-in_err-add_removal-clause-same : goal.returns-in_err-add_removal-clause-same
returns-in_err-add_removal-clause-same g c = unchanged-trans c.args.second.now c.loop-item.second c.add_removal.new.second c.loop-item.invariant.0 c.add_removal.ensures.same

pub returns-in_err-add_removal-clause-err : goal.returns-in_err-add_removal-clause-err
returns-in_err-add_removal-clause-err g c =
    let p = err_from_is_err_and c.from_residual.result c.from_residual.ensures.1 in
    rw (p.1, p.2) (meets-later c.args.second.now c.loop-item.second c.add_removal.new.second c.in_err-add_removal.field-0.0 c.loop-item.invariant.0 c.in_err-add_removal.ensures.err)

pub loop-item-preserved : goal.loop-item-preserved
loop-item-preserved g c =
    let m = shown c.args.second.now in (
      unchanged-trans c.args.second.now c.loop-item.second c.add_removal.new.second c.loop-item.invariant.0 c.add_removal.ensures.same,
      λ t all.
          let there : IsItemOf t c.item-item.result = subst (IsItemOf t) (sym c.item-item.is) (all c.loop-item.item-index c.item-item.result c.loop-item-test.true) in
          let one : c.add_removal.new.calls.items ≡ c.loop-item.calls.items ++ removal_of t (view_tree m c.args.view.now) c.item-item.result =
          subst (λ (k : Machine). c.add_removal.new.calls.items ≡ c.loop-item.calls.items ++ removal_of t (view_tree k c.args.view.now) c.item-item.result) c.loop-item.invariant.0.machine (c.in_ok-add_removal.ensures.ok t there) in
          items_more (removal_of t (view_tree m c.args.view.now)) c.args.olds.now c.loop-item.item-index c.item-item.result c.args.calls.now.items c.loop-item.calls.items c.add_removal.new.calls.items
          c.loop-item-test.true c.item-item.is (c.loop-item.invariant.1 t all) one,
    )

pub returns-clause-ok : goal.returns-clause-ok
returns-clause-ok g c = λ t all.
    let past = c.loop-item-test.false in
    let whole : take c.loop-item.item-index c.args.olds.now ≡ c.args.olds.now = take_all c.loop-item.item-index c.args.olds.now (omega (arith, past)) in
    c.loop-item.invariant.1 t all ∙ ap (λ (items : List Item). c.args.calls.now.items ++ flat_map (removal_of t (view_tree (shown c.args.second.now) c.args.view.now)) items) whole
