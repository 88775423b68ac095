use Rattle.std.proofs.Common.{◌≡◌, ◌∙◌, ◌++◌, inr, slice_index_or, sym, subst}
use Rattle.std.proofs.lemmas.Result.{err_from_is_err_and}
use Rattle.std.specs.Prelude.{reverse}
use Rattle.std.specs.List.{flat_map}
use Rattle.history_machine.specs.Machine.{Machine, view_tree, working_tree}
use Rattle.inquiries.specs.Items.{IsItemOf}
use Rattle.inquiries.specs.Readings.{shown}
use Rattle.inquiries.proofs.Readings.{unchanged-refl, unchanged-trans}
use Rattle.updates.specs.Changes.{making_of}
use Rattle.updates.specs.declared.manner.Manner.{Manner}
use Rattle.updates.proofs.ChangeLemmas.{listed_changes, reversed_there}
use Rattle.updates.proofs.Meeting.{either_later}
use Rattle.updates.proofs.listed.list_changes_at.Goals as goal

pub returns-in_err-add_removals-clause-err : goal.returns-in_err-add_removals-clause-err
returns-in_err-add_removals-clause-err g c =
    let p = err_from_is_err_and c.from_residual.result c.from_residual.ensures.1 in
    rw (p.1, p.2) (inr c.in_err-add_removals.ensures.err)

pub add_makings-requires-clause-there : goal.add_makings-requires-clause-there
add_makings-requires-clause-there g c = λ k item within.
    subst (λ (m : Machine). IsItemOf (view_tree m c.args.view.now) (slice_index_or c.args.news.now k item)) (sym c.add_removals.ensures.same.machine) (c.requires.news k item within)

pub returns-in_err-add_makings-clause-second : goal.returns-in_err-add_makings-clause-second
returns-in_err-add_makings-clause-second g c = unchanged-trans c.args.second.now c.add_removals.new.second c.add_makings.new.second c.add_removals.ensures.same c.add_makings.ensures.second

pub returns-in_err-add_makings-clause-err : goal.returns-in_err-add_makings-clause-err
returns-in_err-add_makings-clause-err g c =
    let p = err_from_is_err_and c.from_residual-in_err-add_makings.result c.from_residual-in_err-add_makings.ensures.1 in
    rw (p.1, p.2) (either_later c.args.first.now c.args.first.now c.add_makings.new.first c.args.second.now c.add_removals.new.second c.add_makings.new.second c.in_err-add_makings.field-0.0
    (unchanged-refl c.args.first.now) c.add_removals.ensures.same c.in_err-add_makings.ensures.err)

pub returns-clause-second : goal.returns-clause-second
returns-clause-second g c = unchanged-trans c.args.second.now c.add_removals.new.second c.add_makings.new.second c.add_removals.ensures.same c.add_makings.ensures.second

pub returns-clause-ok : goal.returns-clause-ok
returns-clause-ok g c =
    let v = c.args.view.now in
    let old = working_tree (shown c.args.first.now) in
    let new = view_tree (shown c.args.second.now) v in
    let turned : c.deref.result.now ≡ reverse c.args.olds.items = c.deref.ensures.value ∙ c.reverse.ensures.items in
    let gone = c.in_ok-add_removals.ensures.ok old (reversed_there old c.args.olds.items c.deref.result.now c.requires.olds turned) in
    let made = subst (λ (m : Machine). c.add_makings.new.calls.items ≡ c.add_removals.new.calls.items ++ flat_map (making_of Manner.Edited old (view_tree m v)) c.args.news.now) c.add_removals.ensures.same.machine
    c.in_ok-add_makings.ensures.ok in
    listed_changes old new c.args.olds.items c.deref.result.now c.args.news.now c.new-calls.result.items c.add_removals.new.calls.items c.add_makings.new.calls.items turned c.new-calls.ensures.items gone made
