use Rattle.std.proofs.Common.{◌∙◌, ◌∷◌, [], ◌++◌, List, sym, ap}
use Rattle.fs_types.specs.Names.{Path}
use Rattle.fs_types.specs.declared.call.Call.{Call}
use Rattle.tree_differences.specs.Updates.{removal}
use Rattle.updates.proofs.ChangeLemmas.{is_directory, is_file}
use Rattle.updates.proofs.changes.push_removal.Goals as goal

pub returns-in_ok-push-in-Dir : goal.returns-in_ok-push-in-Dir
returns-in_ok-push-in-Dir c = λ t is.
    let p = c.args.item.now.path in
    c.in_ok-push-in-Dir.ensures.items
    ∙ ap (λ (l : List Call). c.args.calls.now.items ++ l) (ap (λ (q : Path). Call.Rmdir q ∷ []) c.in_ok-path.ensures ∙ sym (ap (removal p) (is_directory t c.args.item.now is _ c.in-Dir.is)))

pub returns-in_ok-push-in-File : goal.returns-in_ok-push-in-File
returns-in_ok-push-in-File c = λ t is.
    let p = c.args.item.now.path in
    c.in_ok-push-in-File.ensures.items
    ∙ ap (λ (l : List Call). c.args.calls.now.items ++ l) (ap (λ (q : Path). Call.Unlink q ∷ []) c.in_ok-path.ensures ∙ sym (ap (removal p) (is_file t c.args.item.now is _ c.in-File.is)))
