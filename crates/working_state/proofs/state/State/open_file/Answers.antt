use Rattle.std.proofs.Common.{◌≡◌, false, true, Ok, Err, [], refl, inr, sym, ap, subst, ◌∙◌}
use Rattle.std.proofs.lemmas.Result.{err_from_is_err_and}
use Rattle.history_machine.specs.Descriptors.{Descriptor, opened}
use Rattle.history_machine.specs.Machine.{working_tree, open_changes}
use Rattle.fs_types.specs.Names.{is_path}
use Rattle.plain_trees.specs.Contents.{Entry}
use Rattle.fs_types.specs.declared.call.Call.{Call}
use Rattle.fs_types.specs.declared.call.Reply.{Reply}
use Rattle.fs_types.specs.declared.fault.Fault.TheVariants.{NoMemory}
use Rattle.nodes.specs.Bodies.{Blocks}
use Rattle.directory.specs.Lookups.{look_up}
use Rattle.directory.specs.Trails.{IsTrail}
use Rattle.directory.specs.declared.lookups.Found.{Found}
use Rattle.tree_edits.specs.Edits.{TakesFile}
use Rattle.working_state.specs.Moments.{Moment, moment, machine_at, nodes_at}
use Rattle.working_state.proofs.ChangedCalls.{looked_ready, looked_stands, at_working, pushed_by, refused_change}
use Rattle.working_state.proofs.Needs.{put_way}
use Rattle.working_state.proofs.OpenCalls.{changes_is, found_below, at_answer, refused_answer, opened_answer}
use Rattle.working_state.proofs.OpenChanges.{found_takes, open_change, open_descriptors}
use Rattle.working_state.proofs.Refusals.{accepted_begins}
use Rattle.working_state.proofs.state.State.open_file.Goals as goal

pub returns-in_err-found : goal.returns-in_err-found
returns-in_err-found g c =
    let p = err_from_is_err_and c.from_residual.result c.from_residual.ensures.1 in
    let d = g.F.Flash.device c.args.flash.now in
    let e = g.F.Flash.device c.check_open.new.flash in
    let call = Call.Open c.args.path.now c.args.flags in
    at_answer Reply.Fd (moment d c.args.self.now) (moment e c.check_open.new.self) call c.in_err-found.field-0.0 c.from_residual.result (p.1 ∙ ap Err p.2)
    (refused_answer (moment d c.args.self.now) (moment e c.check_open.new.self) call c.in_err-found.field-0.0 c.requires c.check_open.ensures.looked refl c.in_err-found.ensures.refused)

pub returns-in_err-clone : goal.returns-in_err-clone
returns-in_err-clone g c =
    let p = err_from_is_err_and c.from_residual-in_err-clone.result c.from_residual-in_err-clone.ensures.1 in
    let d = g.F.Flash.device c.args.flash.now in
    let e = g.F.Flash.device c.check_open.new.flash in
    let call = Call.Open c.args.path.now c.args.flags in
    at_answer Reply.Fd (moment d c.args.self.now) (moment e c.check_open.new.self) call NoMemory c.from_residual-in_err-clone.result (p.1 ∙ ap Err p.2)
    (refused_answer (moment d c.args.self.now) (moment e c.check_open.new.self) call NoMemory c.requires c.check_open.ensures.looked refl (inr (accepted_begins (machine_at (moment d c.args.self.now)) call c.in_ok-found.ensures.accepted refl)))

pub returns-then-not-is_changed : goal.returns-then-not-is_changed
returns-then-not-is_changed g c =
    let a : Moment = moment (g.F.Flash.device c.args.flash.now) c.args.self.now in
    let b : Moment = moment (g.F.Flash.device c.check_open.new.flash) c.check_open.new.self in
    let path = c.args.path.now in
    let flags = c.args.flags in
    let descriptor = c.in_ok-found.descriptor in
    let ok = c.in_ok-found.ensures in
    let same : open_changes (working_tree (machine_at a)) path flags ≡ false =
    changes_is a path flags c.root-root.result c.in_ok-found.found c.requires c.root-root.ensures ok.found ok.fits ∙ sym c.if-not-is_changed.ensures in
    let is : c.open.new.self ≡ opened b.state.files descriptor (record { path = path; flags = flags }) =
    c.open.ensures ∙ ap (λ (f : Descriptor). opened b.state.files descriptor f) (c.new-file.ensures ∙ ap (λ p. record { path = p; flags = flags }) c.in_ok-clone.ensures) in
    opened_answer a b path flags descriptor c.open.new.self c.requires c.check_open.ensures.looked ok.lawful ok.accepted same ok.descriptor is

pub change-requires-clause-ready : goal.change-requires-clause-ready
change-requires-clause-ready g c = looked_ready _ _ c.requires c.check_open.ensures.looked

pub change-requires-clause-stands : goal.change-requires-clause-stands
change-requires-clause-stands g c = looked_stands _ _ c.root-root.result c.requires c.root-root.ensures c.check_open.ensures.looked

pub change-requires-clause-editable : goal.change-requires-clause-editable
change-requires-clause-editable g c =
    let b : Moment = moment (g.F.Flash.device c.check_open.new.flash) c.check_open.new.self in
    let ok = c.in_ok-found.ensures in
    let path = c.args.path.now in
    at_working (λ root. (is_path path ≡ true) × IsTrail (nodes_at b) root path c.in_ok-found.trail × (x : Found) × (look_up (nodes_at b) root path ≡ Ok x) × TakesFile x) (moment (g.F.Flash.device c.args.flash.now) c.args.self.now) b c.root-root.result c.root-root.ensures c.check_open.ensures.looked
    (ok.lawful, subst (λ (n : Blocks). IsTrail n c.root-root.result path c.in_ok-found.trail) (sym c.check_open.ensures.nodes) ok.way, c.in_ok-found.found, subst (λ (n : Blocks). look_up n c.root-root.result c.args.path.now ≡ Ok c.in_ok-found.found) (sym c.check_open.ensures.nodes) ok.found, found_takes c.args.flags c.in_ok-found.found ok.fits)

pub returns-in_err-change : goal.returns-in_err-change
returns-in_err-change g c =
    let p = err_from_is_err_and c.from_residual-in_err-change.result c.from_residual-in_err-change.ensures.1 in
    let a : Moment = moment (g.F.Flash.device c.args.flash.now) c.args.self.now in
    let b : Moment = moment (g.F.Flash.device c.check_open.new.flash) c.check_open.new.self in
    let path = c.args.path.now in
    let flags = c.args.flags in
    let descriptor = c.in_ok-found.descriptor in
    let ok = c.in_ok-found.ensures in
    let looked = c.check_open.ensures.looked in
    let call = Call.Open path flags in
    let f = g.F.Flash.device c.change.new.flash in
    let changes : open_changes (working_tree (machine_at a)) path flags ≡ true =
    changes_is a path flags c.root-root.result c.in_ok-found.found c.requires c.root-root.ensures ok.found ok.fits ∙ sym c.if-not-is_changed.ensures in
    let by = open_change a b path flags descriptor c.requires looked ok.accepted ok.lawful changes ok.descriptor (found_below _ c.root-root.result path flags c.in_ok-found.found ok.found ok.fits) in
    let way : IsTrail (nodes_at b) c.root-root.result path c.in_ok-found.trail = subst (λ (n : Blocks). IsTrail n c.root-root.result path c.in_ok-found.trail) (sym c.check_open.ensures.nodes) ok.way in
    let few = put_way a b call (λ _. Entry.File []) (Reply.Fd descriptor) c.root-root.result path c.in_ok-found.trail c.requires c.root-root.ensures looked by way in
    let fault = c.in_err-change.field-0.0 in
    at_answer Reply.Fd a (moment f (record b.state { storage = c.change.new.storage; history = c.change.new.history; group = c.change.new.group })) call fault c.from_residual-in_err-change.result (p.1 ∙ ap Err p.2)
    (refused_change a b f c.change.new.storage c.change.new.history c.change.new.group c.root-root.result call _ (Reply.Fd descriptor) fault c.requires c.root-root.ensures looked by few c.in_err-change.ensures.written c.in_err-change.ensures.ends)

pub returns : goal.returns
returns g c =
    let a : Moment = moment (g.F.Flash.device c.args.flash.now) c.args.self.now in
    let b : Moment = moment (g.F.Flash.device c.check_open.new.flash) c.check_open.new.self in
    let path = c.args.path.now in
    let flags = c.args.flags in
    let descriptor = c.in_ok-found.descriptor in
    let ok = c.in_ok-found.ensures in
    let looked = c.check_open.ensures.looked in
    let call = Call.Open path flags in
    let f = g.F.Flash.device c.change.new.flash in
    let changes : open_changes (working_tree (machine_at a)) path flags ≡ true =
    changes_is a path flags c.root-root.result c.in_ok-found.found c.requires c.root-root.ensures ok.found ok.fits ∙ sym c.if-not-is_changed.ensures in
    let by = open_change a b path flags descriptor c.requires looked ok.accepted ok.lawful changes ok.descriptor (found_below _ c.root-root.result path flags c.in_ok-found.found ok.found ok.fits) in
    let way : IsTrail (nodes_at b) c.root-root.result path c.in_ok-found.trail = subst (λ (n : Blocks). IsTrail n c.root-root.result path c.in_ok-found.trail) (sym c.check_open.ensures.nodes) ok.way in
    let few = put_way a b call (λ _. Entry.File []) (Reply.Fd descriptor) c.root-root.result path c.in_ok-found.trail c.requires c.root-root.ensures looked by way in
    let opens : c.open-2.new.self ≡ opened b.state.files descriptor (record { path = path; flags = flags }) =
    c.open-2.ensures ∙ ap (λ (f : Descriptor). opened b.state.files descriptor f) (c.new-file.ensures ∙ ap (λ p. record { path = p; flags = flags }) c.in_ok-clone.ensures) in
    pushed_by a b f c.change.new.storage c.change.new.history c.change.new.group c.open-2.new.self call (Reply.Fd descriptor) c.in_ok-change.ensures.ends by few c.in_ok-change.ensures.written c.requires looked
    (open_descriptors a b path flags descriptor c.open-2.new.self looked ok.descriptor opens) (λ _. refl)
