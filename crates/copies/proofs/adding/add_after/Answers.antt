use Rattle.std.proofs.Common.{◌≡◌, ◌∙◌, sym, subst, ap}
use Rattle.history_machine.specs.History.{changed}
use Rattle.history_machine.specs.Machine.{Machine, mounted, working_tree}
use Rattle.inquiries.specs.Readings.{shown}
use Rattle.copies.specs.Added.{NotAdded}
use Rattle.copies.proofs.Extending.{edited, stops_added, unlisted}
use Rattle.copies.proofs.adding.add_after.Goals as goal

pub returns-in-Err-clause-err : goal.returns-in-Err-clause-err
returns-in-Err-clause-err g c =
    subst (NotAdded (shown c.args.from.now) (working_tree (shown c.args.to.now)) (g.F.Flash.device c.args.from.now.flash.now) (g.F.Flash.device c.list_changes.new.second.flash.now) (g.G.Flash.device c.list_changes.new.first.flash.now))
    (sym c.of_untold.ensures) (unlisted c.args.to.now c.args.from.now c.list_changes.new.first c.list_changes.new.second c.in-Err.fault c.in-Err.ensures.err)

pub make_synced-requires-clause-rests : goal.make_synced-requires-clause-rests
make_synced-requires-clause-rests g c = subst (λ (m : Machine). m ≡ mounted m.history) (sym c.list_changes.ensures.first.machine) c.requires

pub make_synced-requires-clause-brings : goal.make_synced-requires-clause-brings
make_synced-requires-clause-brings g c =
    let from = shown c.args.from.now in (
      working_tree from,
      edited from (shown c.args.to.now) (shown c.list_changes.new.first) c.deref.result.now c.args.from.now.mounted.mounted.machine c.args.to.now.mounted.mounted.machine
          c.list_changes.ensures.first.machine (c.deref.ensures.value ∙ c.in-Ok.ensures.ok),
    )

pub returns-in-Ok-make_synced-clause-ok : goal.returns-in-Ok-make_synced-clause-ok
returns-in-Ok-make_synced-clause-ok g c =
    let from = shown c.args.from.now in
    let same = c.list_changes.ensures.first.machine in
    c.in-Ok-make_synced.ensures.ok (working_tree from) (edited from (shown c.args.to.now) (shown c.list_changes.new.first) c.deref.result.now c.args.from.now.mounted.mounted.machine c.args.to.now.mounted.mounted.machine
    same (c.deref.ensures.value ∙ c.in-Ok.ensures.ok)) ∙ ap (λ (m : Machine). mounted (changed m.history (working_tree from))) same

pub returns-clause-err : goal.returns-clause-err
returns-clause-err g c =
    let from = shown c.args.from.now in
    stops_added from (shown c.list_changes.new.first) c.deref.result.now (g.G.Flash.device c.make_synced.new.to.flash.now) c.in-Err-make_synced.fault
    (edited from (shown c.args.to.now) (shown c.list_changes.new.first) c.deref.result.now c.args.from.now.mounted.mounted.machine c.args.to.now.mounted.mounted.machine c.list_changes.ensures.first.machine
    (c.deref.ensures.value ∙ c.in-Ok.ensures.ok)) c.in-Err-make_synced.ensures.err
