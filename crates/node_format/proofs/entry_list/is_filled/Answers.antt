use Rattle.std.proofs.Common.{◌≡◌, Some, sym, ap, ◌∙◌, true}
use Rattle.std.specs.Ordering.{is_lt}
use Rattle.node_format.specs.Items.{Item, is_before}
use Rattle.node_format.specs.Directories.{item_at}
use Rattle.node_format.proofs.Filled.{filled_goes_on, is_lt-is_ge}
use Rattle.node_format.proofs.entry_list.is_filled.Goals as goal

pub loop-preserved : goal.loop-preserved
loop-preserved c =
    let item : Item = record { name = c.entry.inside.name.now; place = c.entry.inside.place } in
    let read : Some (item, c.in-Some.after.now) ≡ item_at c.loop.rest.now = ap (λ (e : Item). Some (e, c.in-Some.after.now)) c.entry.view_is ∙ c.in-Some.ensures in
    let before_it : is_before c.loop.before.now item.name ≡ true = ap is_lt (sym c.cmp.ensures) ∙ is_lt-is_ge c.cmp.result (sym c.is_ge.ensures ∙ c.if-is_ge.false) in
    filled_goes_on c.args.count c.loop.counter c.loop.before.now c.loop.rest.now item c.in-Some.after.now _ c.loop-test.true read before_it c.loop.invariant
