use Rattle.std.proofs.Common.{◌≡◌, ◌-◌, List, Some, None, ap, subst, sym, ◌∙◌}
use Rattle.std.specs.Ordering.{is_lt}
use Rattle.node_format.specs.Items.{Item}
use Rattle.node_format.specs.Directories.{items_at, item_at}
use Rattle.node_format.specs.Edits.{IsSplit}
use Rattle.node_format.proofs.Passed.{pass_one, passed_front, split_found, split_beyond, one_left}
use Rattle.node_format.proofs.Known.{known_left}
use Rattle.node_format.proofs.entry_list.EntryList.split.Goals as goal

pub known_entry-requires : goal.known_entry-requires
known_entry-requires c = known_left _ _ _ _ _ _ c.loop-done-test.true c.loop-done.invariant

pub unreachable-requires : goal.unreachable-requires
unreachable-requires c = one_left _ _ _ _ _ _ c.loop-done-test.true c.in_default.ensures c.loop-done.invariant

pub front_of-requires-clause-spelled : goal.front_of-requires-clause-spelled
front_of-requires-clause-spelled c = (passed_front _ _ _ _ _ _ c.self.invariant.lawful c.loop-done.invariant).spelled

pub front_of-requires-in-Greater-clause-spelled : goal.front_of-requires-in-Greater-clause-spelled
front_of-requires-in-Greater-clause-spelled c = (passed_front _ _ _ _ _ _ c.self.invariant.lawful c.loop-done.invariant).spelled

pub invariant_of-result : goal.invariant_of-result
invariant_of-result c =
    let item : Item = record { name = c.entry.inside.name.now; place = c.entry.inside.place } in
    let read : Some (item, c.in-Some.after.now) ≡ item_at c.loop-done.rest.now = ap (λ (e : Item). Some (e, c.in-Some.after.now)) c.entry.view_is ∙ c.in-Some.ensures in
    let front = passed_front _ _ _ _ _ _ c.self.invariant.lawful c.loop-done.invariant in
    (split_found _ _ _ _ _ _ item c.in-Some.after.now c.front_of.result c.loop-done-test.true read (sym c.in-Equal.ensures) c.loop-done.invariant (c.front_of.ensures ∙ front.read)).1

pub returns-in-Equal-clause-split : goal.returns-in-Equal-clause-split
returns-in-Equal-clause-split c =
    let item : Item = record { name = c.entry.inside.name.now; place = c.entry.inside.place } in
    let read : Some (item, c.in-Some.after.now) ≡ item_at c.loop-done.rest.now = ap (λ (e : Item). Some (e, c.in-Some.after.now)) c.entry.view_is ∙ c.in-Some.ensures in
    let front = passed_front _ _ _ _ _ _ c.self.invariant.lawful c.loop-done.invariant in
    let split = (split_found _ _ _ _ _ _ item c.in-Some.after.now c.front_of.result c.loop-done-test.true read (sym c.in-Equal.ensures) c.loop-done.invariant (c.front_of.ensures ∙ front.read)).0 in
    subst (λ (items : List Item). IsSplit items c.args.name.now c.front_of.result (Some c.entry.inside.place) (items_at (c.self.inside.count - c.loop-done.done - 1) c.in-Some.after.now)) c.self.view_is split

pub returns-in-Greater-clause-split : goal.returns-in-Greater-clause-split
returns-in-Greater-clause-split c =
    let item : Item = record { name = c.entry.inside.name.now; place = c.entry.inside.place } in
    let read : Some (item, c.in-Some.after.now) ≡ item_at c.loop-done.rest.now = ap (λ (e : Item). Some (e, c.in-Some.after.now)) c.entry.view_is ∙ c.in-Some.ensures in
    let front = passed_front _ _ _ _ _ _ c.self.invariant.lawful c.loop-done.invariant in
    let split = split_beyond _ _ _ _ _ _ item c.in-Some.after.now c.front_of-in-Greater.result c.loop-done-test.true read (sym c.in-Greater.ensures) c.loop-done.invariant (c.front_of-in-Greater.ensures ∙ front.read) in
    subst (λ (items : List Item). IsSplit items c.args.name.now c.front_of-in-Greater.result None (items_at (c.self.inside.count - c.loop-done.done) c.loop-done.rest.now)) c.self.view_is split

pub loop-done-preserved : goal.loop-done-preserved
loop-done-preserved c =
    let item : Item = record { name = c.entry.inside.name.now; place = c.entry.inside.place } in
    let read : Some (item, c.in-Some.after.now) ≡ item_at c.loop-done.rest.now = ap (λ (e : Item). Some (e, c.in-Some.after.now)) c.entry.view_is ∙ c.in-Some.ensures in
    pass_one _ _ _ _ _ _ item c.in-Some.after.now c.loop-done-test.true read (ap is_lt (sym c.in-Less.ensures)) c.loop-done.invariant
