use Rattle.std.proofs.Common.{◌≡◌, None, List, [], take, sym, subst, arith}
use Rattle.std.proofs.lemmas.List.{take_all}
use Rattle.std.proofs.lemmas.Result.{err_from_is_err_and}
use Rattle.history_machine.specs.History.{view_refusal}
use Rattle.history_machine.specs.Machine.{Machine, view_tree}
use Rattle.inquiries.specs.Items.{IsItemOf}
use Rattle.inquiries.specs.Readings.{shown}
use Rattle.inquiries.specs.declared.items.Item.{Item}
use Rattle.inquiries.proofs.Readings.{unchanged-refl, unchanged-trans, meets-later}
use Rattle.copies.specs.Found.{AreTops, with_top}
use Rattle.copies.proofs.Finding.{no_tops, tops_more}
use Rattle.copies.proofs.moves.list_tops.Goals as goal

pub loop-item-init : goal.loop-item-init
loop-item-init g c =
    (unchanged-refl c.args.fs.now, λ t all. subst (AreTops t (view_tree (shown c.args.fs.now) c.args.other.now) []) (sym c.new-tops.ensures.items) (no_tops t (view_tree (shown c.args.fs.now) c.args.other.now)))

pub add_top-requires : goal.add_top-requires
add_top-requires g c = subst (λ (m : Machine). view_refusal m.history c.args.other.now ≡ None) (sym c.loop-item.invariant.0.machine) c.requires

pub returns-in_err-add_top-clause-same : goal.returns-in_err-add_top-clause-same
returns-in_err-add_top-clause-same g c = unchanged-trans c.args.fs.now c.loop-item.fs c.add_top.new.fs c.loop-item.invariant.0 c.add_top.ensures.same

pub returns-in_err-add_top-clause-err : goal.returns-in_err-add_top-clause-err
returns-in_err-add_top-clause-err g c =
    let p = err_from_is_err_and c.from_residual.result c.from_residual.ensures.1 in
    rw (p.1, p.2) (meets-later c.args.fs.now c.loop-item.fs c.add_top.new.fs c.in_err-add_top.field-0.0 c.loop-item.invariant.0 c.in_err-add_top.ensures.err)

pub loop-item-preserved : goal.loop-item-preserved
loop-item-preserved g c =
    let o = c.args.other.now in
    let other = view_tree (shown c.args.fs.now) o in (
      unchanged-trans c.args.fs.now c.loop-item.fs c.add_top.new.fs c.loop-item.invariant.0 c.add_top.ensures.same,
      λ t all.
          let there : IsItemOf t c.item-item.result = subst (IsItemOf t) (sym c.item-item.is) (all c.loop-item.item-index c.item-item.result c.loop-item-test.true) in
          let one : c.add_top.new.tops.items ≡ with_top t other c.loop-item.tops.items c.item-item.result =
          subst (λ (m : Machine). c.add_top.new.tops.items ≡ with_top t (view_tree m o) c.loop-item.tops.items c.item-item.result) c.loop-item.invariant.0.machine (c.in_ok-add_top.ensures.ok t there) in
          tops_more t other c.args.items.now c.loop-item.item-index c.item-item.result c.loop-item.tops.items c.add_top.new.tops.items c.loop-item-test.true c.item-item.is (c.loop-item.invariant.1 t all) one,
    )

pub returns-clause-ok : goal.returns-clause-ok
returns-clause-ok g c = λ t all.
    let past = c.loop-item-test.false in
    let whole : take c.loop-item.item-index c.args.items.now ≡ c.args.items.now = take_all c.loop-item.item-index c.args.items.now (omega (arith, past)) in
    subst (λ (xs : List Item). AreTops t (view_tree (shown c.args.fs.now) c.args.other.now) xs c.loop-item.tops.items) whole (c.loop-item.invariant.1 t all)
