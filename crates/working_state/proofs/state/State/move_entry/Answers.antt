use Rattle.std.proofs.Common.{Err, refl, ap, subst, ◌∙◌}
use Rattle.std.proofs.lemmas.Result.{err_from_is_err_and}
use Rattle.fs_types.specs.declared.call.Call.{Call}
use Rattle.fs_types.specs.declared.call.Reply.{Reply}
use Rattle.plain_trees.specs.Contents.{Apart}
use Rattle.tree_edits.specs.Edits.{IsMovable}
use Rattle.working_state.specs.Moments.{Moment, moment, nodes_at}
use Rattle.working_state.specs.Steps.{empty}
use Rattle.working_state.proofs.ChangedCalls.{looked_ready, looked_stands, at_working, change_by}
use Rattle.working_state.proofs.Needs.{move_way}
use Rattle.working_state.proofs.OpenCalls.{at_answer, refused_answer}
use Rattle.working_state.proofs.RenameSteps.{rename_apart, rename_change, same_answer}
use Rattle.working_state.specs.Renames.{IsToMove}
use Rattle.node_store.specs.NodePages.{node_of}
use Rattle.working_state.proofs.state.State.move_entry.Goals as goal

pub returns-in_err-moves : goal.returns-in_err-moves
returns-in_err-moves g c =
    let p = err_from_is_err_and c.from_residual.result c.from_residual.ensures.1 in
    let d = g.F.Flash.device c.args.flash.now in
    let e = g.F.Flash.device c.check_rename.new.flash in
    let call = Call.Rename c.args.old.now c.args.new.now in
    at_answer empty (moment d c.args.self.now) (moment e c.check_rename.new.self) call c.in_err-moves.field-0.0 c.from_residual.result (p.1 ∙ ap Err p.2)
    (refused_answer (moment d c.args.self.now) (moment e c.check_rename.new.self) call c.in_err-moves.field-0.0 c.requires c.check_rename.ensures.looked refl c.in_err-moves.ensures.refused)

pub change-requires-clause-ready : goal.change-requires-clause-ready
change-requires-clause-ready g c = looked_ready _ _ c.requires c.check_rename.ensures.looked

pub change-requires-clause-stands : goal.change-requires-clause-stands
change-requires-clause-stands g c = looked_stands _ _ c.root-root.result c.requires c.root-root.ensures c.check_rename.ensures.looked

pub change-requires-clause-editable : goal.change-requires-clause-editable
change-requires-clause-editable g c =
    let b : Moment = moment (g.F.Flash.device c.check_rename.new.flash) c.check_rename.new.self in
    let movable = (subst (IsToMove (node_of (g.F.Flash.device c.check_rename.new.flash)) c.root-root.result c.args.old.now c.args.new.now) c.in-Some.is c.in_ok-moves.ensures.movable) in
    let it = c.in-Some.moves in
    at_working (λ root. Apart c.args.old.now c.args.new.now × IsMovable (nodes_at b) root c.args.old.now it.old_trail c.args.new.now it.new_trail it.place) (moment (g.F.Flash.device c.args.flash.now) c.args.self.now) b c.root-root.result c.root-root.ensures c.check_rename.ensures.looked
    (rename_apart (moment (g.F.Flash.device c.args.flash.now) c.args.self.now) c.args.old.now c.args.new.now c.requires c.in_ok-moves.ensures.accepted movable.0, movable.1)

pub returns : goal.returns
returns g c =
    let a : Moment = moment (g.F.Flash.device c.args.flash.now) c.args.self.now in
    let b : Moment = moment (g.F.Flash.device c.check_rename.new.flash) c.check_rename.new.self in
    let looked = c.check_rename.ensures.looked in
    let movable = (subst (IsToMove (node_of (g.F.Flash.device c.check_rename.new.flash)) c.root-root.result c.args.old.now c.args.new.now) c.in-Some.is c.in_ok-moves.ensures.movable) in
    let it = c.in-Some.moves in
    let by = rename_change a b c.args.old.now c.args.new.now c.requires looked c.in_ok-moves.ensures.accepted movable.0 movable.1.lawful in
    let apart = rename_apart a c.args.old.now c.args.new.now c.requires c.in_ok-moves.ensures.accepted movable.0 in
    let few = move_way a b (Call.Rename c.args.old.now c.args.new.now) Reply.Empty c.root-root.result c.args.old.now it.old_trail c.args.new.now it.new_trail it.place c.requires c.root-root.ensures looked by apart movable.1 in
    change_by a b (g.F.Flash.device c.change.new.flash) c.change.new.storage c.change.new.history c.change.new.group c.root-root.result (Call.Rename c.args.old.now c.args.new.now) c.change.result c.change.ensures
    by few c.requires c.root-root.ensures looked refl (λ _. refl)

pub returns-in_default : goal.returns-in_default
returns-in_default g c =
    same_answer (moment (g.F.Flash.device c.args.flash.now) c.args.self.now) (moment (g.F.Flash.device c.check_rename.new.flash) c.check_rename.new.self) c.args.old.now c.args.new.now c.requires c.check_rename.ensures.looked c.in_ok-moves.ensures.accepted
    (subst (IsToMove (node_of (g.F.Flash.device c.check_rename.new.flash)) c.root-root.result c.args.old.now c.args.new.now) c.in_default.is c.in_ok-moves.ensures.movable)
