use Rattle.std.proofs.Common.{◌≡◌, ◌<◌, true, Ok, Err, length, refl, ap, ◌∙◌}
use Rattle.std.proofs.lemmas.Result.{err_from_is_err_and}
use Rattle.fs_types.specs.Names.{is_path}
use Rattle.fs_types.specs.declared.call.Call.{Call}
use Rattle.fs_types.specs.declared.call.Reply.{Reply}
use Rattle.directory.specs.declared.lookups.Found.{Found}
use Rattle.directory.specs.Lookups.{look_up}
use Rattle.directory.specs.Trails.{IsTrail}
use Rattle.tree_edits.specs.Edits.{IsRemovable}
use Rattle.working_state.specs.Moments.{Moment, moment, nodes_at}
use Rattle.working_state.specs.Steps.{empty}
use Rattle.working_state.proofs.ChangedCalls.{looked_ready, looked_stands, at_working, change_by}
use Rattle.working_state.proofs.Needs.{taken_way}
use Rattle.working_state.proofs.OpenCalls.{at_answer, refused_answer}
use Rattle.working_state.proofs.TakenOut.{file_below, unlink_change}
use Rattle.node_store.specs.NodePages.{node_of}
use Rattle.directory.specs.declared.lookups.Found.TheVariants as found
use Rattle.working_state.proofs.state.State.remove_file.Goals as goal

pub returns-in_err-trail : goal.returns-in_err-trail
returns-in_err-trail g c =
    let p = err_from_is_err_and c.from_residual.result c.from_residual.ensures.1 in
    let d = g.F.Flash.device c.args.flash.now in
    let e = g.F.Flash.device c.check_file.new.flash in
    let call = Call.Unlink c.args.path.now in
    at_answer empty (moment d c.args.self.now) (moment e c.check_file.new.self) call c.in_err-trail.field-0.0 c.from_residual.result (p.1 ∙ ap Err p.2)
    (refused_answer (moment d c.args.self.now) (moment e c.check_file.new.self) call c.in_err-trail.field-0.0 c.requires c.check_file.ensures.looked refl c.in_err-trail.ensures.refused)

pub change-requires-clause-ready : goal.change-requires-clause-ready
change-requires-clause-ready g c = looked_ready _ _ c.requires c.check_file.ensures.looked

pub change-requires-clause-stands : goal.change-requires-clause-stands
change-requires-clause-stands g c = looked_stands _ _ c.root-root.result c.requires c.root-root.ensures c.check_file.ensures.looked

pub change-requires-clause-editable : goal.change-requires-clause-editable
change-requires-clause-editable g c =
    let b : Moment = moment (g.F.Flash.device c.check_file.new.flash) c.check_file.new.self in
    let ok = c.in_ok-trail.ensures in
    let path = c.args.path.now in
    at_working (λ root. (is_path path ≡ true) × IsTrail (nodes_at b) root path c.in_ok-trail.trail × (0 < length path) × (x : Found) × (look_up (nodes_at b) root path ≡ Ok x) × IsRemovable (nodes_at b) x) (moment (g.F.Flash.device c.args.flash.now) c.args.self.now) b c.root-root.result c.root-root.ensures c.check_file.ensures.looked
    (ok.lawful, ok.way, file_below (node_of (g.F.Flash.device c.check_file.new.flash)) c.root-root.result c.args.path.now c.in_ok-trail.ensures.found.0 c.in_ok-trail.ensures.found.1 c.in_ok-trail.ensures.found.2, found.File ok.found.0 ok.found.1, ok.found.2, tt)

pub returns : goal.returns
returns g c =
    let a : Moment = moment (g.F.Flash.device c.args.flash.now) c.args.self.now in
    let b : Moment = moment (g.F.Flash.device c.check_file.new.flash) c.check_file.new.self in
    let looked = c.check_file.ensures.looked in
    let by = unlink_change a b c.args.path.now c.requires looked c.in_ok-trail.ensures.accepted c.in_ok-trail.ensures.lawful
    (file_below (node_of (g.F.Flash.device c.check_file.new.flash)) c.root-root.result c.args.path.now c.in_ok-trail.ensures.found.0 c.in_ok-trail.ensures.found.1 c.in_ok-trail.ensures.found.2) in
    let few = taken_way a b (Call.Unlink c.args.path.now) Reply.Empty c.root-root.result c.args.path.now c.in_ok-trail.trail c.requires c.root-root.ensures looked by c.in_ok-trail.ensures.way in
    change_by a b (g.F.Flash.device c.change.new.flash) c.change.new.storage c.change.new.history c.change.new.group c.root-root.result (Call.Unlink c.args.path.now) c.change.result c.change.ensures
    by few c.requires c.root-root.ensures looked refl (λ _. refl)
