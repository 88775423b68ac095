use Rattle.std.proofs.Common.{◌≡◌, ◌∙◌, ◌++◌, slice_index_or, sym, ap, subst}
use Rattle.std.specs.Prelude.{reverse}
use Rattle.std.specs.List.{flat_map}
use Rattle.fs_types.specs.Names.{Path}
use Rattle.fs_types.specs.declared.limits.TheConstants.{MAX_NAMES}
use Rattle.history_machine.specs.Machine.{Machine, view_tree, working_tree}
use Rattle.inquiries.specs.Items.{items_below, items_of, IsDirectoryOf, IsItemOf}
use Rattle.inquiries.specs.Readings.{shown}
use Rattle.inquiries.proofs.Entries.{root_there}
use Rattle.inquiries.proofs.Readings.{unchanged-trans}
use Rattle.updates.specs.Changes.{making_of, removal_of}
use Rattle.updates.proofs.ChangeLemmas.{all_changes, all_there, all_there_reversed}
use Rattle.updates.proofs.changes.list_changes.Goals as goal

pub list_folder-requires-2 : goal.list_folder-requires-2
list_folder-requires-2 g c =
    let m = shown c.args.second.now in
    subst (λ (path : Path). IsDirectoryOf m c.args.view.now path) (sym c.root-root.ensures) (root_there m c.args.view.now c.args.second.now.mounted.mounted.machine c.requires.view)

pub add_makings-requires-clause-there : goal.add_makings-requires-clause-there
add_makings-requires-clause-there g c = λ k item within.
    let t = view_tree (shown c.args.second.now) c.args.view.now in
    let news : c.deref-2.result.now ≡ items_of t = c.deref-2.ensures.value ∙ c.in_ok-news.ensures.ok ∙ ap (items_below t MAX_NAMES) c.root-root.ensures in
    subst (λ (m : Machine). IsItemOf (view_tree m c.args.view.now) (slice_index_or c.deref-2.result.now k item)) (sym (c.add_removals.ensures.same.machine ∙ c.list_folder-2.ensures.same.machine))
    (all_there t c.deref-2.result.now news k item within)

pub returns-in_err-add_makings-clause-first : goal.returns-in_err-add_makings-clause-first
returns-in_err-add_makings-clause-first g c = unchanged-trans c.args.first.now c.list_folder.new.fs c.add_makings.new.first c.list_folder.ensures.same c.add_makings.ensures.first

pub returns-in_err-add_makings-clause-second : goal.returns-in_err-add_makings-clause-second
returns-in_err-add_makings-clause-second g c =
    unchanged-trans c.args.second.now c.add_removals.new.second c.add_makings.new.second (unchanged-trans c.args.second.now c.list_folder-2.new.fs c.add_removals.new.second c.list_folder-2.ensures.same c.add_removals.ensures.same)
    c.add_makings.ensures.second

pub returns-clause-first : goal.returns-clause-first
returns-clause-first g c = unchanged-trans c.args.first.now c.list_folder.new.fs c.add_makings.new.first c.list_folder.ensures.same c.add_makings.ensures.first

pub returns-clause-second : goal.returns-clause-second
returns-clause-second g c =
    unchanged-trans c.args.second.now c.add_removals.new.second c.add_makings.new.second (unchanged-trans c.args.second.now c.list_folder-2.new.fs c.add_removals.new.second c.list_folder-2.ensures.same c.add_removals.ensures.same)
    c.add_makings.ensures.second

pub returns-clause-ok : goal.returns-clause-ok
returns-clause-ok g c =
    let v = c.args.view.now in
    let old = working_tree (shown c.args.first.now) in
    let new = view_tree (shown c.args.second.now) v in
    let olds : c.deref.result.now ≡ reverse (items_of old) = c.deref.ensures.value ∙ c.reverse.ensures.items ∙ ap reverse (c.in_ok-olds.ensures.ok ∙ ap (items_below old MAX_NAMES) c.root-root.ensures) in
    let news : c.deref-2.result.now ≡ items_of new = c.deref-2.ensures.value ∙ c.in_ok-news.ensures.ok ∙ ap (items_below new MAX_NAMES) c.root-root.ensures in
    let gone = subst (λ (m : Machine). c.add_removals.new.calls.items ≡ c.new-calls.result.items ++ flat_map (removal_of old (view_tree m v)) c.deref.result.now) c.list_folder-2.ensures.same.machine
    (c.in_ok-add_removals.ensures.ok old (all_there_reversed old c.deref.result.now olds)) in
    let by_first = subst (λ (m : Machine). c.add_makings.new.calls.items ≡ c.add_removals.new.calls.items ++ flat_map (making_of c.args.manner (working_tree m) (view_tree (shown c.add_removals.new.second) v)) c.deref-2.result.now) c.list_folder.ensures.same.machine
    c.in_ok-add_makings.ensures.ok in
    let made = subst (λ (m : Machine). c.add_makings.new.calls.items ≡ c.add_removals.new.calls.items ++ flat_map (making_of c.args.manner old (view_tree m v)) c.deref-2.result.now) (c.add_removals.ensures.same.machine ∙ c.list_folder-2.ensures.same.machine) by_first in
    all_changes c.args.manner old new c.deref.result.now c.deref-2.result.now c.new-calls.result.items c.add_removals.new.calls.items c.add_makings.new.calls.items olds news c.new-calls.ensures.items gone made
