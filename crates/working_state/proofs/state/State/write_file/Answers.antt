use Rattle.std.proofs.Common.{◌≡◌, ◌≤◌, true, false, not, Ok, Err, length, refl, sym, ap, ◌∙◌, inr}
use Rattle.std.proofs.lemmas.Result.{err_from_is_err_and}
use Rattle.fs_types.specs.Names.{is_path}
use Rattle.fs_types.specs.declared.call.Call.{Call}
use Rattle.fs_types.specs.declared.call.Reply.{Reply}
use Rattle.history_machine.specs.Machine.{working_tree, write_file_changes}
use Rattle.directory.specs.Lookups.{look_up}
use Rattle.directory.specs.Trails.{IsTrail}
use Rattle.directory.specs.declared.lookups.Found.{Found}
use Rattle.tree_edits.specs.Edits.{TakesFile}
use Rattle.tree_edits.proofs.Lookups.{file_below}
use Rattle.working_state.specs.Moments.{Moment, moment, machine_at, seen_at, nodes_at}
use Rattle.working_state.specs.Steps.{empty}
use Rattle.working_state.proofs.ChangedCalls.{looked_ready, looked_stands, at_working, change_by}
use Rattle.working_state.proofs.ChangeSteps.{later_stands}
use Rattle.working_state.proofs.FileChanges.{same_answer}
use Rattle.working_state.proofs.MovedEntries.{read_may, read_later}
use Rattle.working_state.proofs.OpenCalls.{at_answer, refused_answer}
use Rattle.working_state.proofs.WholeFiles.{write_change, write_few, write_nothing, write_later}
use Rattle.working_state.proofs.Refusals.{accepted_begins}
use Rattle.working_state.proofs.Standing.{looked_on, looked_worked, worked_mounted, worked_machine, worked_later, same_working}
use Rattle.working_state.proofs.state.State.write_file.Goals as goal

pub returns-in_err-found : goal.returns-in_err-found
returns-in_err-found g c =
    let p = err_from_is_err_and c.from_residual.result c.from_residual.ensures.1 in
    let a : Moment = moment (g.F.Flash.device c.args.flash.now) c.args.self.now in
    let b : Moment = moment (g.F.Flash.device c.check_whole.new.flash) c.check_whole.new.self in
    let call = Call.WriteFile c.args.path.now c.args.bytes.now in
    at_answer empty a b call c.in_err-found.field-0.0 c.from_residual.result (p.1 ∙ ap Err p.2)
    (refused_answer a b call c.in_err-found.field-0.0 c.requires c.check_whole.ensures.looked refl c.in_err-found.ensures.refused)

pub has_bytes-requires-clause-mounted : goal.has_bytes-requires-clause-mounted
has_bytes-requires-clause-mounted g c =
    let a : Moment = moment (g.F.Flash.device c.args.flash.now) c.args.self.now in
    let b : Moment = moment (g.F.Flash.device c.check_whole.new.flash) c.check_whole.new.self in
    worked_mounted a b c.requires (looked_worked a b c.check_whole.ensures.looked)

pub has_bytes-requires-clause-working : goal.has_bytes-requires-clause-working
has_bytes-requires-clause-working g c = same_working c.args.self.now c.check_whole.new.self c.check_whole.ensures.looked.rest ∙ c.root-root.ensures

pub returns-in_err-same : goal.returns-in_err-same
returns-in_err-same g c =
    let p = err_from_is_err_and c.from_residual-in_err-same.result c.from_residual-in_err-same.ensures.1 in
    let a : Moment = moment (g.F.Flash.device c.args.flash.now) c.args.self.now in
    let b : Moment = moment (g.F.Flash.device c.check_whole.new.flash) c.check_whole.new.self in
    let d : Moment = moment (g.F.Flash.device c.has_bytes.new.flash) c.has_bytes.new.self in
    let call = Call.WriteFile c.args.path.now c.args.bytes.now in
    let looked = looked_on a b d c.check_whole.ensures.looked c.has_bytes.ensures.looked in
    let fault = c.in_err-same.field-0.0 in
    at_answer empty a d call fault c.from_residual-in_err-same.result (p.1 ∙ ap Err p.2)
    (refused_answer a d call fault c.requires looked refl (inr (read_may (seen_at a) (seen_at d) (machine_at a) call fault (accepted_begins (machine_at a) call c.in_ok-found.ensures.accepted refl)
    (read_later (seen_at a) (seen_at b) (seen_at d) fault (worked_later a b (looked_worked a b c.check_whole.ensures.looked)) c.in_err-same.ensures.why))))

pub returns-then-same : goal.returns-then-same
returns-then-same g c =
    let a : Moment = moment (g.F.Flash.device c.args.flash.now) c.args.self.now in
    let b : Moment = moment (g.F.Flash.device c.check_whole.new.flash) c.check_whole.new.self in
    let d : Moment = moment (g.F.Flash.device c.has_bytes.new.flash) c.has_bytes.new.self in
    let path = c.args.path.now in
    let bytes = c.args.bytes.now in
    let looked = looked_on a b d c.check_whole.ensures.looked c.has_bytes.ensures.looked in
    let changes : write_file_changes (working_tree (machine_at a)) path bytes ≡ false =
    ap (λ n. write_file_changes (working_tree n) path bytes) (sym (worked_machine a b c.requires (looked_worked a b c.check_whole.ensures.looked))) ∙ c.in_ok-same.ensures.same ∙ ap not c.if-same.true in
    same_answer a d (Call.WriteFile path bytes) Reply.Empty c.requires looked (write_nothing (machine_at a) path bytes changes) c.in_ok-found.ensures.accepted (λ _. refl) refl

pub change-requires-clause-ready : goal.change-requires-clause-ready
change-requires-clause-ready g c =
    let a : Moment = moment (g.F.Flash.device c.args.flash.now) c.args.self.now in
    let b : Moment = moment (g.F.Flash.device c.check_whole.new.flash) c.check_whole.new.self in
    let d : Moment = moment (g.F.Flash.device c.has_bytes.new.flash) c.has_bytes.new.self in
    looked_ready a d c.requires (looked_on a b d c.check_whole.ensures.looked c.has_bytes.ensures.looked)

pub change-requires-clause-stands : goal.change-requires-clause-stands
change-requires-clause-stands g c =
    let a : Moment = moment (g.F.Flash.device c.args.flash.now) c.args.self.now in
    let b : Moment = moment (g.F.Flash.device c.check_whole.new.flash) c.check_whole.new.self in
    let d : Moment = moment (g.F.Flash.device c.has_bytes.new.flash) c.has_bytes.new.self in
    looked_stands a d c.root-root.result c.requires c.root-root.ensures (looked_on a b d c.check_whole.ensures.looked c.has_bytes.ensures.looked)

pub change-requires-clause-editable : goal.change-requires-clause-editable
change-requires-clause-editable g c =
    let a : Moment = moment (g.F.Flash.device c.args.flash.now) c.args.self.now in
    let b : Moment = moment (g.F.Flash.device c.check_whole.new.flash) c.check_whole.new.self in
    let d : Moment = moment (g.F.Flash.device c.has_bytes.new.flash) c.has_bytes.new.self in
    let root = c.root-root.result in
    let path = c.args.path.now in
    let x = c.in_ok-found.found in
    let ok = c.in_ok-found.ensures in
    let mid = worked_mounted a b c.requires (looked_worked a b c.check_whole.ensures.looked) in
    let later = write_later b d root path x c.in_ok-found.trail mid (later_stands a b root c.requires c.root-root.ensures c.check_whole.ensures.looked) c.has_bytes.ensures.looked ok.found ok.way in
    at_working (λ r. (is_path path ≡ true) × IsTrail (nodes_at d) r path c.in_ok-found.trail × (length c.args.bytes.now ≤ 16777216) × (y : Found) × (look_up (nodes_at d) r path ≡ Ok y) × TakesFile y) a d root c.root-root.ensures (looked_on a b d c.check_whole.ensures.looked c.has_bytes.ensures.looked)
    (ok.lawful, later.1, ok.short, x, later.0, ok.takes)

pub returns : goal.returns
returns g c =
    let a : Moment = moment (g.F.Flash.device c.args.flash.now) c.args.self.now in
    let b : Moment = moment (g.F.Flash.device c.check_whole.new.flash) c.check_whole.new.self in
    let d : Moment = moment (g.F.Flash.device c.has_bytes.new.flash) c.has_bytes.new.self in
    let root = c.root-root.result in
    let path = c.args.path.now in
    let bytes = c.args.bytes.now in
    let x = c.in_ok-found.found in
    let ok = c.in_ok-found.ensures in
    let looked = looked_on a b d c.check_whole.ensures.looked c.has_bytes.ensures.looked in
    let mid = worked_mounted a b c.requires (looked_worked a b c.check_whole.ensures.looked) in
    let later = write_later b d root path x c.in_ok-found.trail mid (later_stands a b root c.requires c.root-root.ensures c.check_whole.ensures.looked) c.has_bytes.ensures.looked ok.found ok.way in
    let changes : write_file_changes (working_tree (machine_at a)) path bytes ≡ true =
    ap (λ n. write_file_changes (working_tree n) path bytes) (sym (worked_machine a b c.requires (looked_worked a b c.check_whole.ensures.looked))) ∙ c.in_ok-same.ensures.same ∙ ap not c.if-same.false in
    let by = write_change a d path bytes c.requires looked ok.accepted ok.lawful changes (file_below (nodes_at b) root path x ok.found ok.takes) in
    let few = write_few a d root path bytes c.in_ok-found.trail c.requires c.root-root.ensures looked by later.1 in
    change_by a d (g.F.Flash.device c.change.new.flash) c.change.new.storage c.change.new.history c.change.new.group root (Call.WriteFile path bytes) c.change.result c.change.ensures
    by few c.requires c.root-root.ensures looked refl (λ _. refl)
