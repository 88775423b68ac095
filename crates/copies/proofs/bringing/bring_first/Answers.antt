use Rattle.std.proofs.Common.{◌≡◌, ◌∙◌, List, inl, sym, subst}
use Rattle.fs_types.specs.declared.call.Call.{Call}
use Rattle.fs_types.specs.declared.call.View.{View}
use Rattle.history_machine.specs.Machine.{Machine, IsMachine, view_tree, working_tree}
use Rattle.inquiries.specs.Readings.{shown}
use Rattle.inquiries.proofs.Entries.{view-file_tree}
use Rattle.tree_differences.specs.UpdateLaws.{Brings}
use Rattle.tree_differences.specs.Updates.{edit_changes}
use Rattle.tree_differences.proofs.Edited.{edit_law}
use Rattle.copies.specs.Causes.{NotCopied}
use Rattle.copies.proofs.Brought.{brought, ready_changed}
use Rattle.copies.proofs.Causing.{untold}
use Rattle.copies.proofs.bringing.bring_first.Goals as goal

-- the changes that are listed bring the one tree to the other
edited : (from to : Machine) (view : View) (changes : List Call) → IsMachine from → IsMachine to → changes ≡ edit_changes (working_tree to) (view_tree from view) → Brings (working_tree to) (view_tree from view) changes
edited from to view changes is is' are =
    subst (Brings (working_tree to) (view_tree from view)) (sym are) (edit_law (working_tree to) (view_tree from view) (view-file_tree to View.Present is') (view-file_tree from view is))

pub returns-in-Err-clause-err : goal.returns-in-Err-clause-err
returns-in-Err-clause-err g c =
    subst (NotCopied (shown c.args.from.now) (g.F.Flash.device c.args.from.now.flash.now) (g.F.Flash.device c.list_changes.new.second.flash.now) (g.G.Flash.device c.list_changes.new.first.flash.now)) (sym c.of_untold.ensures)
    (untold c.args.to.now c.args.from.now c.list_changes.new.first c.list_changes.new.second c.args.view.now c.in-Err.fault c.requires.view c.requires.ready c.in-Err.ensures.err)

pub returns-clause-err : goal.returns-clause-err
returns-clause-err g c =
    let from = shown c.args.from.now in
    let to = shown c.args.to.now in
    let stopped = c.in-Err-make_version.ensures.err in
    inl (record {
      shows = shown c.list_changes.new.first;
      view = c.args.view.now;
      changes = c.deref.result.now;
      brings = subst (λ (m : Machine). Brings (working_tree m) (view_tree from c.args.view.now) c.deref.result.now) (sym c.list_changes.ensures.first.machine)
          (edited from to c.args.view.now c.deref.result.now c.args.from.now.mounted.mounted.machine c.args.to.now.mounted.mounted.machine (c.deref.ensures.value ∙ c.in-Ok.ensures.ok));
      path = stopped.0;
      stops = stopped.1;
    })

made : goal.returns-in-Ok-make_version-clause-ok
made g c =
    let from = shown c.args.from.now in
    let to = shown c.args.to.now in
    let done = c.in-Ok-make_version.ensures.ok in
    brought to (shown c.list_changes.new.first) (shown c.make_version.new.to) (view_tree from c.args.view.now) c.deref.result.now done.0 c.args.to.now.mounted.mounted.machine
    c.requires.ready.rests c.list_changes.ensures.first.machine
    (edited from to c.args.view.now c.deref.result.now c.args.from.now.mounted.mounted.machine c.args.to.now.mounted.mounted.machine (c.deref.ensures.value ∙ c.in-Ok.ensures.ok)) done.1

pub returns-in-Ok-make_version-clause-ok : goal.returns-in-Ok-make_version-clause-ok
returns-in-Ok-make_version-clause-ok g c = made g c

pub returns-in-Ok-make_version-clause-ready : goal.returns-in-Ok-make_version-clause-ready
returns-in-Ok-make_version-clause-ready g c =
    ready_changed (shown c.args.to.now) (shown c.make_version.new.to) (view_tree (shown c.args.from.now) c.args.view.now) c.args.to.now.mounted.mounted.machine c.requires.ready c.in-Ok.ensures.small.1 (made g c)
