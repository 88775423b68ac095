use Rattle.std.proofs.Common.{◌≡◌, ◌++◌, None, List, take, sym, subst, append-nil, arith}
use Rattle.std.proofs.lemmas.List.{take_all}
use Rattle.std.proofs.lemmas.Result.{err_from_is_err_and}
use Rattle.std.specs.List.{flat_map}
use Rattle.history_machine.specs.History.{view_refusal}
use Rattle.history_machine.specs.Machine.{Machine, view_tree, working_tree}
use Rattle.inquiries.specs.Items.{IsItemOf}
use Rattle.inquiries.specs.Readings.{shown}
use Rattle.inquiries.specs.declared.items.Item.{Item}
use Rattle.inquiries.proofs.Readings.{unchanged-refl, unchanged-trans}
use Rattle.updates.specs.Changes.{making_of}
use Rattle.updates.proofs.ChangeLemmas.{items_more}
use Rattle.updates.proofs.Meeting.{either_later}
use Rattle.updates.proofs.changes.add_makings.Goals as goal

pub loop-item-init : goal.loop-item-init
loop-item-init g c = (unchanged-refl c.args.first.now, unchanged-refl c.args.second.now, sym (append-nil c.args.calls.now.items))

pub add_making-requires-clause-view : goal.add_making-requires-clause-view
add_making-requires-clause-view g c = subst (λ (m : Machine). view_refusal m.history c.args.view.now ≡ None) (sym c.loop-item.invariant.1.machine) c.requires.view

pub add_making-requires-clause-there : goal.add_making-requires-clause-there
add_making-requires-clause-there g c =
    subst (λ (m : Machine). IsItemOf (view_tree m c.args.view.now) c.item-item.result) (sym c.loop-item.invariant.1.machine)
    (subst (IsItemOf (view_tree (shown c.args.second.now) c.args.view.now)) (sym c.item-item.is) (c.requires.there c.loop-item.item-index c.item-item.result c.loop-item-test.true))

pub returns-in_err-add_making-clause-first : goal.returns-in_err-add_making-clause-first
returns-in_err-add_making-clause-first g c = unchanged-trans c.args.first.now c.loop-item.first c.add_making.new.first c.loop-item.invariant.0 c.add_making.ensures.first

pub returns-in_err-add_making-clause-second : goal.returns-in_err-add_making-clause-second
returns-in_err-add_making-clause-second g c = unchanged-trans c.args.second.now c.loop-item.second c.add_making.new.second c.loop-item.invariant.1 c.add_making.ensures.second

pub returns-in_err-add_making-clause-err : goal.returns-in_err-add_making-clause-err
returns-in_err-add_making-clause-err g c =
    let p = err_from_is_err_and c.from_residual.result c.from_residual.ensures.1 in
    rw (p.1, p.2) (either_later c.args.first.now c.loop-item.first c.add_making.new.first c.args.second.now c.loop-item.second c.add_making.new.second c.in_err-add_making.field-0.0
    c.loop-item.invariant.0 c.loop-item.invariant.1 c.in_err-add_making.ensures.err)

pub loop-item-preserved : goal.loop-item-preserved
loop-item-preserved g c =
    let m = shown c.args.first.now in
    let n = shown c.args.second.now in
    let by_first = subst (λ (k : Machine). c.add_making.new.calls.items ≡ c.loop-item.calls.items ++ making_of c.args.manner (working_tree k) (view_tree (shown c.loop-item.second) c.args.view.now) c.item-item.result) c.loop-item.invariant.0.machine c.in_ok-add_making.ensures.ok in
    let one = subst (λ (k : Machine). c.add_making.new.calls.items ≡ c.loop-item.calls.items ++ making_of c.args.manner (working_tree m) (view_tree k c.args.view.now) c.item-item.result) c.loop-item.invariant.1.machine by_first in (
      unchanged-trans c.args.first.now c.loop-item.first c.add_making.new.first c.loop-item.invariant.0 c.add_making.ensures.first,
      unchanged-trans c.args.second.now c.loop-item.second c.add_making.new.second c.loop-item.invariant.1 c.add_making.ensures.second,
      items_more (making_of c.args.manner (working_tree m) (view_tree n c.args.view.now)) c.args.news.now c.loop-item.item-index c.item-item.result c.args.calls.now.items c.loop-item.calls.items c.add_making.new.calls.items
          c.loop-item-test.true c.item-item.is c.loop-item.invariant.2 one,
    )

pub returns-clause-ok : goal.returns-clause-ok
returns-clause-ok g c =
    let past = c.loop-item-test.false in
    let whole : take c.loop-item.item-index c.args.news.now ≡ c.args.news.now = take_all c.loop-item.item-index c.args.news.now (omega (arith, past)) in
    subst (λ (items : List Item). c.loop-item.calls.items ≡ c.args.calls.now.items ++ flat_map (making_of c.args.manner (working_tree (shown c.args.first.now)) (view_tree (shown c.args.second.now) c.args.view.now)) items) whole c.loop-item.invariant.2
