use Rattle.std.proofs.Common.{◌≡◌, ◌∙◌, ◌++◌, ℕ, List, sym, ap, subst, arith}
use Rattle.std.proofs.lemmas.List.{take_all}
use Rattle.std.specs.List.{flat_map}
use Rattle.history_machine.specs.Machine.{Machine, view_tree}
use Rattle.inquiries.specs.Differences.{item_beside}
use Rattle.inquiries.specs.Pruned.{IsPruned}
use Rattle.inquiries.specs.Readings.{shown}
use Rattle.inquiries.specs.declared.items.Item.{Item}
use Rattle.inquiries.proofs.PrunedLemmas.{lines_more, pruned_item, pruned_lines}
use Rattle.inquiries.proofs.Readings.{unchanged-trans}
use Rattle.inquiries.proofs.differences.add_lines.Goals as goal

pub add_line-requires-clause-there : goal.add_line-requires-clause-there
add_line-requires-clause-there g c =
    let m = shown c.args.fs.now in
    pruned_item m (shown c.loop-item.fs) c.args.view.now c.args.other.now c.deref-item-items.result.now c.loop-item.item-index c.item-item.result c.loop-item.invariant.0.machine
    (subst (IsPruned (view_tree m c.args.view.now) (view_tree m c.args.other.now)) (sym c.deref-item-items.ensures.value) c.in_ok-items.ensures.pruned) c.loop-item-test.true c.item-item.is

pub loop-item-preserved : goal.loop-item-preserved
loop-item-preserved g c =
    let m = shown c.args.fs.now in
    let told = subst (λ (n : Machine). c.add_line.new.out.items ≡ c.loop-item.out.items ++ item_beside c.args.side (view_tree n c.args.view.now) (view_tree n c.args.other.now) c.item-item.result) c.loop-item.invariant.0.machine
    c.in_ok-add_line.ensures.ok in (
      unchanged-trans c.args.fs.now c.loop-item.fs c.add_line.new.fs c.loop-item.invariant.0 c.add_line.ensures.same,
      lines_more (item_beside c.args.side (view_tree m c.args.view.now) (view_tree m c.args.other.now)) c.deref-item-items.result.now c.loop-item.item-index c.item-item.result c.args.out.now.items c.loop-item.out.items
          c.add_line.new.out.items c.loop-item-test.true c.item-item.is c.loop-item.invariant.1 told,
    )

pub returns-clause-ok : goal.returns-clause-ok
returns-clause-ok g c =
    let m = shown c.args.fs.now in
    let t = view_tree m c.args.view.now in
    let other = view_tree m c.args.other.now in
    let items = c.deref-item-items.result.now in
    let past = c.loop-item-test.false in
    c.loop-item.invariant.1
    ∙ ap (λ (l : List Item). c.args.out.now.items ++ flat_map (item_beside c.args.side t other) l) (take_all c.loop-item.item-index items (omega (arith, past)))
    ∙ ap (λ (l : List ℕ). c.args.out.now.items ++ l) (pruned_lines c.args.side t other items (subst (IsPruned t other) (sym c.deref-item-items.ensures.value) c.in_ok-items.ensures.pruned))
