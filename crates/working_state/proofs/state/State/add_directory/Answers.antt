use Rattle.std.proofs.Common.{◌≡◌, true, false, Ok, Err, refl, ap, ◌∙◌, arith}
use Rattle.std.proofs.lemmas.Result.{err_from_is_err_and}
use Rattle.fs_types.specs.Names.{is_path}
use Rattle.plain_trees.specs.Contents.{Entry}
use Rattle.fs_types.specs.declared.call.Call.{Call}
use Rattle.fs_types.specs.declared.call.Reply.{Reply}
use Rattle.directory.specs.declared.lookups.Found.TheVariants.{Missing}
use Rattle.directory.specs.Lookups.{look_up}
use Rattle.directory.specs.Trails.{IsTrail}
use Rattle.working_state.specs.Moments.{Moment, moment, nodes_at}
use Rattle.working_state.specs.Steps.{empty}
use Rattle.working_state.proofs.ChangedCalls.{looked_ready, looked_stands, at_working, change_by}
use Rattle.working_state.proofs.Needs.{put_way}
use Rattle.working_state.proofs.NewDirectories.{mkdir_change}
use Rattle.working_state.proofs.OpenCalls.{at_answer, refused_answer}
use Rattle.working_state.proofs.state.State.add_directory.Goals as goal

pub returns-in_err-trail : goal.returns-in_err-trail
returns-in_err-trail g c =
    let p = err_from_is_err_and c.from_residual.result c.from_residual.ensures.1 in
    let d = g.F.Flash.device c.args.flash.now in
    let e = g.F.Flash.device c.check_missing.new.flash in
    let call = Call.Mkdir c.args.path.now in
    at_answer empty (moment d c.args.self.now) (moment e c.check_missing.new.self) call c.in_err-trail.field-0.0 c.from_residual.result (p.1 ∙ ap Err p.2)
    (refused_answer (moment d c.args.self.now) (moment e c.check_missing.new.self) call c.in_err-trail.field-0.0 c.requires c.check_missing.ensures.looked refl c.in_err-trail.ensures.refused)

pub change-requires-clause-ready : goal.change-requires-clause-ready
change-requires-clause-ready g c = looked_ready _ _ c.requires c.check_missing.ensures.looked

pub change-requires-clause-stands : goal.change-requires-clause-stands
change-requires-clause-stands g c = looked_stands _ _ c.root-root.result c.requires c.root-root.ensures c.check_missing.ensures.looked

pub change-requires-clause-editable : goal.change-requires-clause-editable
change-requires-clause-editable g c =
    let b : Moment = moment (g.F.Flash.device c.check_missing.new.flash) c.check_missing.new.self in
    let path = c.args.path.now in
    at_working (λ root. (is_path path ≡ true) × IsTrail (nodes_at b) root path c.in_ok-trail.trail × (look_up (nodes_at b) root path ≡ Ok (Missing false))) (moment (g.F.Flash.device c.args.flash.now) c.args.self.now) b c.root-root.result c.root-root.ensures c.check_missing.ensures.looked
    (c.in_ok-trail.ensures.lawful, c.in_ok-trail.ensures.way, c.in_ok-trail.ensures.missing)

pub returns : goal.returns
returns g c =
    let a : Moment = moment (g.F.Flash.device c.args.flash.now) c.args.self.now in
    let b : Moment = moment (g.F.Flash.device c.check_missing.new.flash) c.check_missing.new.self in
    let looked = c.check_missing.ensures.looked in
    let by = mkdir_change a b c.args.path.now c.requires looked c.in_ok-trail.ensures.accepted c.in_ok-trail.ensures.lawful in
    let few = put_way a b (Call.Mkdir c.args.path.now) (λ _. Entry.Dir) Reply.Empty c.root-root.result c.args.path.now c.in_ok-trail.trail c.requires c.root-root.ensures looked by c.in_ok-trail.ensures.way in
    change_by a b (g.F.Flash.device c.change.new.flash) c.change.new.storage c.change.new.history c.change.new.group c.root-root.result (Call.Mkdir c.args.path.now) c.change.result c.change.ensures
    by (omega arith) c.requires c.root-root.ensures looked refl (λ _. refl)
