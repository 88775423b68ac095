use Rattle.std.proofs.Common.{◌≡◌, ◌∙◌, ◌++◌, List, sym, ap, subst, append-nil, arith}
use Rattle.std.proofs.lemmas.List.{take_all}
use Rattle.std.proofs.lemmas.Result.{err_from_is_err_and}
use Rattle.history_machine.specs.Machine.{Machine, working_tree}
use Rattle.inquiries.specs.declared.items.Item.{Item}
use Rattle.inquiries.specs.Readings.{shown}
use Rattle.inquiries.proofs.Readings.{meets-later, unchanged-refl, unchanged-trans}
use Rattle.copies.specs.Moved.{there_in, there_at}
use Rattle.copies.proofs.Renaming.{listed_more}
use Rattle.copies.proofs.moving.add_items.Goals as goal

pub loop-item-init : goal.loop-item-init
loop-item-init g c = (unchanged-refl c.args.to.now, sym (append-nil c.args.items.now.items))

pub returns-in_err-add_item-clause-same : goal.returns-in_err-add_item-clause-same
returns-in_err-add_item-clause-same g c = unchanged-trans c.args.to.now c.loop-item.to c.add_item.new.to c.loop-item.invariant.0 c.add_item.ensures.same

pub returns-in_err-add_item-clause-err : goal.returns-in_err-add_item-clause-err
returns-in_err-add_item-clause-err g c =
    let p = err_from_is_err_and c.from_residual.result c.from_residual.ensures.1 in
    rw (p.1, p.2) (meets-later c.args.to.now c.loop-item.to c.add_item.new.to c.in_err-add_item.field-0.0 c.loop-item.invariant.0 c.in_err-add_item.ensures.err)

pub loop-item-preserved : goal.loop-item-preserved
loop-item-preserved g c =
    let t = working_tree (shown c.args.to.now) in
    let same = c.loop-item.invariant.0 in
    let one = subst (λ (m : Machine). c.add_item.new.items.items ≡ c.loop-item.items.items ++ there_at (working_tree m) c.item-item.result.path) same.machine c.in_ok-add_item.ensures.ok in (
      unchanged-trans c.args.to.now c.loop-item.to c.add_item.new.to same c.add_item.ensures.same,
      listed_more (λ (x : Item). there_at t x.path) c.args.olds.now c.loop-item.item-index c.item-item.result c.args.items.now.items c.loop-item.items.items c.add_item.new.items.items c.loop-item-test.true c.item-item.is c.loop-item.invariant.1 one,
    )

pub returns-clause-ok : goal.returns-clause-ok
returns-clause-ok g c =
    let past = c.loop-item-test.false in
    c.loop-item.invariant.1 ∙ ap (λ (xs : List (Item)). c.args.items.now.items ++ there_in (working_tree (shown c.args.to.now)) xs) (take_all c.loop-item.item-index c.args.olds.now (omega (arith, past)))
