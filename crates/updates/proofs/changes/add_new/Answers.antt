use Rattle.std.proofs.Common.{◌≡◌, ◌∷◌, [], ◌++◌, List, None, sym, ap, subst}
use Rattle.std.specs.FinMap.{get}
use Rattle.fs_types.specs.declared.call.Call.{Call}
use Rattle.history_machine.specs.Machine.{view_tree}
use Rattle.inquiries.specs.Readings.{shown}
use Rattle.tree_differences.specs.Updates.{making}
use Rattle.updates.proofs.ChangeLemmas.{is_directory, is_file}
use Rattle.updates.proofs.changes.add_new.Goals as goal

pub returns-in_ok-push_mkdir-in-Dir-clause-ok : goal.returns-in_ok-push_mkdir-in-Dir-clause-ok
returns-in_ok-push_mkdir-in-Dir-clause-ok g c =
    let t = view_tree (shown c.args.second.now) c.args.view.now in
    let p = c.args.item.now.path in
    let same : Call.Mkdir p ∷ [] ≡ making p None (get t p) = ap (making p None) (sym (is_directory t c.args.item.now c.requires.there _ c.in-Dir.is)) in
    subst (λ (l : List Call). c.push_mkdir.new.calls.items ≡ c.args.calls.now.items ++ l) same c.in_ok-push_mkdir-in-Dir.ensures

pub returns-in_ok-add_writing-in-File-clause-ok : goal.returns-in_ok-add_writing-in-File-clause-ok
returns-in_ok-add_writing-in-File-clause-ok g c =
    let p = c.args.item.now.path in
    subst (λ (l : List Call). c.add_writing.new.calls.items ≡ c.args.calls.now.items ++ l) (sym (ap (making p None) c.in_ok-bytes-in-File.ensures.ok)) c.in_ok-add_writing-in-File.ensures

pub read_item-requires-clause-file : goal.read_item-requires-clause-file
read_item-requires-clause-file g c =
    record { accepted = c.requires.view; there = is_file (view_tree (shown c.args.second.now) c.args.view.now) c.args.item.now c.requires.there _ c.in-File.is }
