use Rattle.std.proofs.Common.{◌≡◌, ◌∙◌, ◌||◌, Bool, true, false, sym, ap, ap₂, subst, arith}
use Rattle.std.proofs.lemmas.List.{take_all}
use Rattle.std.proofs.lemmas.List.Folds.{list_any_at, list_any_more}
use Rattle.std.specs.List.{list_any}
use Rattle.history_machine.specs.Machine.{Machine, view_tree}
use Rattle.inquiries.specs.Pruned.{IsPruned}
use Rattle.inquiries.specs.Readings.{shown}
use Rattle.inquiries.specs.Within.{tells_below}
use Rattle.inquiries.specs.declared.items.Item.{Item}
use Rattle.inquiries.proofs.Entries.{view-file_tree}
use Rattle.inquiries.proofs.PrunedLemmas.{pruned_item}
use Rattle.inquiries.proofs.Readings.{unchanged-trans}
use Rattle.inquiries.proofs.WithinLemmas.{pruned_below}
use Rattle.inquiries.proofs.differences.tells_below.Goals as goal

pub tells_item-requires-clause-there : goal.tells_item-requires-clause-there
tells_item-requires-clause-there g c =
    let m = shown c.args.fs.now in
    pruned_item m (shown c.loop-item.fs) c.args.view.now c.args.other.now c.deref-item-items.result.now c.loop-item.item-index c.item-item.result c.loop-item.invariant.0.machine
    (subst (IsPruned (view_tree m c.args.view.now) (view_tree m c.args.other.now)) (sym c.deref-item-items.ensures.value) c.in_ok-items.ensures.pruned) c.loop-item-test.true c.item-item.is

pub returns-then-tells-clause-ok : goal.returns-then-tells-clause-ok
returns-then-tells-clause-ok g c =
    let m = shown c.args.fs.now in
    let t = view_tree m c.args.view.now in
    let other = view_tree m c.args.other.now in
    let items = c.deref-item-items.result.now in
    let tells : Item → Bool = tells_below c.args.side t other c.args.directory.now in
    let here : tells c.item-item.result ≡ true =
    sym (c.in_ok-tells.ensures.ok ∙ ap (λ (n : Machine). tells_below c.args.side (view_tree n c.args.view.now) (view_tree n c.args.other.now) c.args.directory.now c.item-item.result) c.loop-item.invariant.0.machine) ∙ c.if-tells.true in
    sym (sym (pruned_below c.args.side t other (view-file_tree m c.args.view.now c.args.fs.now.mounted.mounted.machine) c.args.directory.now items (subst (IsPruned t other) (sym c.deref-item-items.ensures.value) c.in_ok-items.ensures.pruned))
    ∙ list_any_at tells items c.loop-item.item-index c.item-item.result c.loop-item-test.true (ap tells (sym c.item-item.is) ∙ here))

pub loop-item-preserved : goal.loop-item-preserved
loop-item-preserved g c =
    let m = shown c.args.fs.now in
    let t = view_tree m c.args.view.now in
    let other = view_tree m c.args.other.now in
    let items = c.deref-item-items.result.now in
    let tells : Item → Bool = tells_below c.args.side t other c.args.directory.now in
    let here : tells c.item-item.result ≡ false =
    sym (c.in_ok-tells.ensures.ok ∙ ap (λ (n : Machine). tells_below c.args.side (view_tree n c.args.view.now) (view_tree n c.args.other.now) c.args.directory.now c.item-item.result) c.loop-item.invariant.0.machine) ∙ c.if-tells.false in (
      unchanged-trans c.args.fs.now c.loop-item.fs c.tells_item.new.fs c.loop-item.invariant.0 c.tells_item.ensures.same,
      list_any_more tells items c.loop-item.item-index c.item-item.result c.loop-item-test.true ∙ ap₂ (λ (a b : Bool). a || b) c.loop-item.invariant.1 (ap tells (sym c.item-item.is) ∙ here),
    )

pub returns-clause-ok : goal.returns-clause-ok
returns-clause-ok g c =
    let m = shown c.args.fs.now in
    let t = view_tree m c.args.view.now in
    let other = view_tree m c.args.other.now in
    let items = c.deref-item-items.result.now in
    let past = c.loop-item-test.false in
    let tells : Item → Bool = tells_below c.args.side t other c.args.directory.now in
    sym (sym (ap (list_any tells) (take_all c.loop-item.item-index items (omega (arith, past)))) ∙ c.loop-item.invariant.1)
    ∙ pruned_below c.args.side t other (view-file_tree m c.args.view.now c.args.fs.now.mounted.mounted.machine) c.args.directory.now items (subst (IsPruned t other) (sym c.deref-item-items.ensures.value) c.in_ok-items.ensures.pruned)
