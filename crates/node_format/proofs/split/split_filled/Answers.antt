use Rattle.std.proofs.Common.{◌≡◌, ℕ, Some, true, [], refl, ap, sym, ◌∙◌, arith}
use Rattle.std.specs.Ordering.{is_lt}
use Rattle.node_format.specs.Items.{Item, is_before}
use Rattle.node_format.specs.Directories.{are_filled, item_at}
use Rattle.node_format.proofs.DirectoryLaws.{are_spelled}
use Rattle.node_format.proofs.Filled.{filled_goes_on, is_lt-is_ge}
use Rattle.node_format.proofs.OnePass.{whole_at, whole_end, same_split}
use Rattle.node_format.proofs.Passed.{passed_none, pass_one, split_found, split_beyond}
use Rattle.node_format.proofs.split.split_filled.Goals as goal

pub loop-done-init : goal.loop-done-init
loop-done-init c = record {
  filled = ap (λ (k : ℕ). are_filled k [] c.args.bytes.now) (omega arith);
  passed = λ filled. passed_none c.args.count c.args.bytes.now c.args.name.now (are_spelled c.args.count c.args.bytes.now (λ i. omega (arith, c.type_inv.bytes i)) c.requires filled);
}

pub loop-done-preserved : goal.loop-done-preserved
loop-done-preserved c =
    let item : Item = record { name = c.entry.inside.name.now; place = c.entry.inside.place } in
    let read : Some (item, c.in_ok-entry.after.now) ≡ item_at c.loop-done.rest.now = ap (λ (e : Item). Some (e, c.in_ok-entry.after.now)) c.entry.view_is ∙ c.in_ok-entry.ensures in
    let before_it : is_before c.loop-done.before.now item.name ≡ true = ap is_lt (sym c.cmp.ensures) ∙ is_lt-is_ge c.cmp.result (sym c.is_ge.ensures ∙ c.if-is_ge.false) in
    record {
      filled = filled_goes_on c.args.count c.loop-done.done c.loop-done.before.now c.loop-done.rest.now item c.in_ok-entry.after.now _ c.loop-done-test.true read before_it c.loop-done.invariant.filled;
      passed = λ filled. pass_one _ _ _ _ _ _ item c.in_ok-entry.after.now c.loop-done-test.true read (ap is_lt (sym c.in-Less.ensures)) (c.loop-done.invariant.passed filled);
    }

pub front_of-requires-clause-spelled : goal.front_of-requires-clause-spelled
front_of-requires-clause-spelled c =
    let item : Item = record { name = c.entry.inside.name.now; place = c.entry.inside.place } in
    let read : Some (item, c.in_ok-entry.after.now) ≡ item_at c.loop-done.rest.now = ap (λ (e : Item). Some (e, c.in_ok-entry.after.now)) c.entry.view_is ∙ c.in_ok-entry.ensures in
    let before_it : is_before c.loop-done.before.now item.name ≡ true = ap is_lt (sym c.cmp.ensures) ∙ is_lt-is_ge c.cmp.result (sym c.is_ge.ensures ∙ c.if-is_ge.false) in
    let whole = whole_at c.args.count c.args.bytes.now c.args.name.now c.loop-done.done c.loop-done.before.now c.loop-done.rest.now item c.in_ok-entry.after.now (λ i. omega (arith, c.type_inv.bytes i)) c.requires c.loop-done.invariant c.loop-done-test.true read before_it
    (sym c.in_ok-back-in-Equal.ensures.filled) in
    whole.front.spelled

pub returns-in-Equal-clause-split : goal.returns-in-Equal-clause-split
returns-in-Equal-clause-split c =
    let item : Item = record { name = c.entry.inside.name.now; place = c.entry.inside.place } in
    let read : Some (item, c.in_ok-entry.after.now) ≡ item_at c.loop-done.rest.now = ap (λ (e : Item). Some (e, c.in_ok-entry.after.now)) c.entry.view_is ∙ c.in_ok-entry.ensures in
    let before_it : is_before c.loop-done.before.now item.name ≡ true = ap is_lt (sym c.cmp.ensures) ∙ is_lt-is_ge c.cmp.result (sym c.is_ge.ensures ∙ c.if-is_ge.false) in
    let whole = whole_at c.args.count c.args.bytes.now c.args.name.now c.loop-done.done c.loop-done.before.now c.loop-done.rest.now item c.in_ok-entry.after.now (λ i. omega (arith, c.type_inv.bytes i)) c.requires c.loop-done.invariant c.loop-done-test.true read before_it
    (sym c.in_ok-back-in-Equal.ensures.filled) in
    same_split _ _ _ _ _ _ _ _ refl refl c.in_ok-back-in-Equal.ensures.list
    (split_found _ _ _ _ _ _ item c.in_ok-entry.after.now c.front_of.result c.loop-done-test.true read (sym c.in-Equal.ensures) whole.so_far (c.front_of.ensures ∙ whole.front.read)).0

pub front_of-requires-in-Greater-clause-spelled : goal.front_of-requires-in-Greater-clause-spelled
front_of-requires-in-Greater-clause-spelled c =
    let item : Item = record { name = c.entry.inside.name.now; place = c.entry.inside.place } in
    let read : Some (item, c.in_ok-entry.after.now) ≡ item_at c.loop-done.rest.now = ap (λ (e : Item). Some (e, c.in_ok-entry.after.now)) c.entry.view_is ∙ c.in_ok-entry.ensures in
    let before_it : is_before c.loop-done.before.now item.name ≡ true = ap is_lt (sym c.cmp.ensures) ∙ is_lt-is_ge c.cmp.result (sym c.is_ge.ensures ∙ c.if-is_ge.false) in
    let whole = whole_at c.args.count c.args.bytes.now c.args.name.now c.loop-done.done c.loop-done.before.now c.loop-done.rest.now item c.in_ok-entry.after.now (λ i. omega (arith, c.type_inv.bytes i)) c.requires c.loop-done.invariant c.loop-done-test.true read before_it
    (sym c.is_filled.ensures ∙ c.if-not-is_filled.false) in
    whole.front.spelled

pub returns-in-Greater-clause-split : goal.returns-in-Greater-clause-split
returns-in-Greater-clause-split c =
    let item : Item = record { name = c.entry.inside.name.now; place = c.entry.inside.place } in
    let read : Some (item, c.in_ok-entry.after.now) ≡ item_at c.loop-done.rest.now = ap (λ (e : Item). Some (e, c.in_ok-entry.after.now)) c.entry.view_is ∙ c.in_ok-entry.ensures in
    let before_it : is_before c.loop-done.before.now item.name ≡ true = ap is_lt (sym c.cmp.ensures) ∙ is_lt-is_ge c.cmp.result (sym c.is_ge.ensures ∙ c.if-is_ge.false) in
    let whole = whole_at c.args.count c.args.bytes.now c.args.name.now c.loop-done.done c.loop-done.before.now c.loop-done.rest.now item c.in_ok-entry.after.now (λ i. omega (arith, c.type_inv.bytes i)) c.requires c.loop-done.invariant c.loop-done-test.true read before_it
    (sym c.is_filled.ensures ∙ c.if-not-is_filled.false) in
    same_split _ _ _ _ _ _ _ _ c.split_between.ensures.front c.split_between.ensures.found c.split_between.ensures.back
    (split_beyond _ _ _ _ _ _ item c.in_ok-entry.after.now c.front_of-in-Greater.result c.loop-done-test.true read (sym c.in-Greater.ensures) whole.so_far (c.front_of-in-Greater.ensures ∙ whole.front.read))

pub invariant_of-split_between : goal.invariant_of-split_between
invariant_of-split_between c =
    (whole_end c.args.count c.args.bytes.now c.args.name.now c.loop-done.done c.loop-done.before.now c.loop-done.rest.now (λ i. omega (arith, c.type_inv.bytes i)) c.requires c.loop-done.invariant c.loop-done-test.false
    (sym c.in_ok-back.ensures.filled)).all
