use Rattle.std.proofs.Common.{◌≡◌, true, false, Err, None, Bool, ◌<◌, List, length, map, sym, ap, refl, subst, ◌∙◌, arith}
use Rattle.std.proofs.lemmas.Bool.{eqb-true, eqb-false}
use Rattle.std.proofs.lemmas.Result.{err_from_is_err_and}
use Rattle.std.specs.List.{list_any}
use Rattle.fs_types.specs.declared.call.Call.{Call}
use Rattle.fs_types.specs.declared.call.Reply.{Reply}
use Rattle.history_machine.specs.Machine.{Machine, working_tree, refusal}
use Rattle.history_machine.specs.NextFiles.{next_refusals}
use Rattle.tree_edits.specs.Edits.{AreWritable}
use Rattle.working_state.specs.Moments.{Moment, moment, machine_at, nodes_at}
use Rattle.working_state.specs.Steps.{empty}
use Rattle.working_state.proofs.ChangedCalls.{looked_ready, looked_stands, at_working, change_by}
use Rattle.working_state.proofs.ChosenFiles.{changes_in}
use Rattle.working_state.proofs.FileChanges.{looked_itself, same_answer}
use Rattle.working_state.proofs.ManyFiles.{order_refuses, directory_refuses, files_refuse, refused_later, above_limit, are_writable, writes_is, writes_change, writes_nothing, writes_few, no_writes, no_refusal, later_target, later_way}
use Rattle.working_state.proofs.OpenCalls.{at_answer, refused_answer}
use Rattle.working_state.proofs.Standing.{looked_on, looked_worked, worked_mounted, worked_machine, same_working}
use Rattle.working_state.proofs.state.State.write_files.Goals as goal

pub returns-in-Some : goal.returns-in-Some
returns-in-Some g c =
    let a : Moment = moment (g.F.Flash.device c.args.flash.now) c.args.self.now in
    let call = Call.WriteFiles c.args.directory.now c.args.files.now in
    refused_answer a a call c.in-Some.fault c.requires (looked_itself a) refl (order_refuses a a c.args.directory.now c.args.files.now c.in-Some.fault (sym c.files_refusal.ensures ∙ c.in-Some.is))

pub returns-then-is_empty : goal.returns-then-is_empty
returns-then-is_empty g c =
    let a : Moment = moment (g.F.Flash.device c.args.flash.now) c.args.self.now in
    let none : length c.args.files.now ≡ 0 = eqb-true (length c.args.files.now) 0 (sym c.is_empty.ensures ∙ c.if-is_empty.true) in
    same_answer a a (Call.WriteFiles c.args.directory.now c.args.files.now) Reply.Empty c.requires (looked_itself a) (no_writes (machine_at a) c.args.directory.now c.args.files.now none)
    (no_refusal (machine_at a) c.args.directory.now c.args.files.now none) (λ _. refl) refl

pub returns-in_err-target : goal.returns-in_err-target
returns-in_err-target g c =
    let p = err_from_is_err_and c.from_residual.result c.from_residual.ensures.1 in
    let a : Moment = moment (g.F.Flash.device c.args.flash.now) c.args.self.now in
    let b : Moment = moment (g.F.Flash.device c.find_target.new.flash) c.find_target.new.self in
    let call = Call.WriteFiles c.args.directory.now c.args.files.now in
    let other = eqb-false (length c.args.files.now) 0 (sym c.is_empty.ensures ∙ c.if-is_empty.false) in
    at_answer empty a b call c.in_err-target.field-0.0 c.from_residual.result (p.1 ∙ ap Err p.2)
    (refused_answer a b call c.in_err-target.field-0.0 c.requires c.find_target.ensures.looked refl
    (directory_refuses a b c.args.directory.now c.args.files.now c.in_err-target.field-0.0 (sym c.files_refusal.ensures ∙ c.in_default.is) (omega arith) c.in_err-target.ensures.refused))

pub check_files-requires-clause-mounted : goal.check_files-requires-clause-mounted
check_files-requires-clause-mounted g c =
    let a : Moment = moment (g.F.Flash.device c.args.flash.now) c.args.self.now in
    let b : Moment = moment (g.F.Flash.device c.find_target.new.flash) c.find_target.new.self in
    worked_mounted a b c.requires (looked_worked a b c.find_target.ensures.looked)

pub check_files-requires-clause-working : goal.check_files-requires-clause-working
check_files-requires-clause-working g c = same_working c.args.self.now c.find_target.new.self c.find_target.ensures.looked.rest ∙ c.root-root.ensures

pub check_files-requires-clause-above : goal.check_files-requires-clause-above
check_files-requires-clause-above g c =
    let other = eqb-false (length c.args.files.now) 0 (sym c.is_empty.ensures ∙ c.if-is_empty.false) in
    above_limit c.args.directory.now c.args.files.now (sym c.files_refusal.ensures ∙ c.in_default.is) (omega arith)

pub returns-in_err-changes : goal.returns-in_err-changes
returns-in_err-changes g c =
    let p = err_from_is_err_and c.from_residual-in_err-changes.result c.from_residual-in_err-changes.ensures.1 in
    let a : Moment = moment (g.F.Flash.device c.args.flash.now) c.args.self.now in
    let b : Moment = moment (g.F.Flash.device c.find_target.new.flash) c.find_target.new.self in
    let e : Moment = moment (g.F.Flash.device c.check_files.new.flash) c.check_files.new.self in
    let call = Call.WriteFiles c.args.directory.now c.args.files.now in
    let fault = c.in_err-changes.field-0.0 in
    let fine = sym c.files_refusal.ensures ∙ c.in_default.is in
    let other = eqb-false (length c.args.files.now) 0 (sym c.is_empty.ensures ∙ c.if-is_empty.false) in
    let mid = worked_mounted a b c.requires (looked_worked a b c.find_target.ensures.looked) in
    let working = same_working c.args.self.now c.find_target.new.self c.find_target.ensures.looked.rest ∙ c.root-root.ensures in
    let machine : machine_at b ≡ machine_at a = worked_machine a b c.requires (looked_worked a b c.find_target.ensures.looked) in
    let refused = next_refusals (working_tree (machine_at b)) b.state.files c.args.directory.now c.in_ok-target.target.count c.args.files.now in
    at_answer empty a e call fault c.from_residual-in_err-changes.result (p.1 ∙ ap Err p.2)
    (refused_answer a e call fault c.requires (looked_on a b e c.find_target.ensures.looked c.check_files.ensures.looked) refl
    (files_refuse a e c.args.directory.now c.args.files.now fault refused fine (omega arith)
    (ap (λ (m : Machine). refusal m call) (sym machine) ∙ writes_is b c.root-root.result c.args.directory.now c.in_ok-target.target.block mid working c.in_ok-target.ensures.led c.in_ok-target.target.count c.args.files.now c.in_ok-target.ensures.counted fine)
    (refused_later a b e refused fault c.find_target.ensures.looked c.in_err-changes.ensures.refused)))

pub returns-then-not-any_changes : goal.returns-then-not-any_changes
returns-then-not-any_changes g c =
    let a : Moment = moment (g.F.Flash.device c.args.flash.now) c.args.self.now in
    let b : Moment = moment (g.F.Flash.device c.find_target.new.flash) c.find_target.new.self in
    let e : Moment = moment (g.F.Flash.device c.check_files.new.flash) c.check_files.new.self in
    let call = Call.WriteFiles c.args.directory.now c.args.files.now in
    let directory = c.args.directory.now in
    let files = c.args.files.now in
    let fine = sym c.files_refusal.ensures ∙ c.in_default.is in
    let mid = worked_mounted a b c.requires (looked_worked a b c.find_target.ensures.looked) in
    let working = same_working c.args.self.now c.find_target.new.self c.find_target.ensures.looked.rest ∙ c.root-root.ensures in
    let machine : machine_at b ≡ machine_at a = worked_machine a b c.requires (looked_worked a b c.find_target.ensures.looked) in
    let accepted : refusal (machine_at a) (Call.WriteFiles c.args.directory.now c.args.files.now) ≡ None =
    ap (λ (m : Machine). refusal m (Call.WriteFiles c.args.directory.now c.args.files.now)) (sym machine) ∙ writes_is b c.root-root.result directory c.in_ok-target.target.block mid working c.in_ok-target.ensures.led c.in_ok-target.target.count files c.in_ok-target.ensures.counted fine ∙ c.in_ok-changes.ensures.accepted in
    let are : c.in_ok-changes.changes.items ≡ map (changes_in (working_tree (machine_at a)) c.args.directory.now) c.args.files.now = c.in_ok-changes.ensures.changes ∙ ap (λ (m : Machine). map (changes_in (working_tree m) c.args.directory.now) c.args.files.now) machine in
    let none : list_any (λ change. change) c.in_ok-changes.changes.items ≡ false = ap (list_any (λ change. change)) (sym c.as_slice.ensures.value) ∙ sym c.any_changes.ensures ∙ c.if-not-any_changes.true in
    same_answer a e call Reply.Empty c.requires (looked_on a b e c.find_target.ensures.looked c.check_files.ensures.looked) (writes_nothing (machine_at a) directory files c.in_ok-changes.changes.items are none) accepted (λ _. refl) refl

pub change-requires-clause-ready : goal.change-requires-clause-ready
change-requires-clause-ready g c =
    let a : Moment = moment (g.F.Flash.device c.args.flash.now) c.args.self.now in
    let b : Moment = moment (g.F.Flash.device c.find_target.new.flash) c.find_target.new.self in
    let e : Moment = moment (g.F.Flash.device c.check_files.new.flash) c.check_files.new.self in
    looked_ready a e c.requires (looked_on a b e c.find_target.ensures.looked c.check_files.ensures.looked)

pub change-requires-clause-stands : goal.change-requires-clause-stands
change-requires-clause-stands g c =
    let a : Moment = moment (g.F.Flash.device c.args.flash.now) c.args.self.now in
    let b : Moment = moment (g.F.Flash.device c.find_target.new.flash) c.find_target.new.self in
    let e : Moment = moment (g.F.Flash.device c.check_files.new.flash) c.check_files.new.self in
    looked_stands a e c.root-root.result c.requires c.root-root.ensures (looked_on a b e c.find_target.ensures.looked c.check_files.ensures.looked)

pub change-requires-clause-editable : goal.change-requires-clause-editable
change-requires-clause-editable g c =
    let a : Moment = moment (g.F.Flash.device c.args.flash.now) c.args.self.now in
    let b : Moment = moment (g.F.Flash.device c.find_target.new.flash) c.find_target.new.self in
    let e : Moment = moment (g.F.Flash.device c.check_files.new.flash) c.check_files.new.self in
    let root = c.root-root.result in
    let directory = c.args.directory.now in
    let files = c.args.files.now in
    let target = c.in_ok-target.target in
    let fine = sym c.files_refusal.ensures ∙ c.in_default.is in
    let other = eqb-false (length c.args.files.now) 0 (sym c.is_empty.ensures ∙ c.if-is_empty.false) in
    let above = above_limit directory files fine (omega arith) in
    let mid = worked_mounted a b c.requires (looked_worked a b c.find_target.ensures.looked) in
    let working = same_working c.args.self.now c.find_target.new.self c.find_target.ensures.looked.rest ∙ c.root-root.ensures in
    let l = c.check_files.ensures.looked in
    let last = worked_mounted b e mid (looked_worked b e l) in
    let worked = same_working c.find_target.new.self c.check_files.new.self l.rest ∙ working in
    let machine : machine_at e ≡ machine_at b = worked_machine b e mid (looked_worked b e l) in
    let there = later_target b e root directory target.block mid working l c.in_ok-target.ensures.led in
    let are : c.in_ok-changes.changes.items ≡ map (changes_in (working_tree (machine_at e)) c.args.directory.now) c.args.files.now = c.in_ok-changes.ensures.changes ∙ ap (λ (m : Machine). map (changes_in (working_tree m) c.args.directory.now) c.args.files.now) (sym machine) in
    let any : list_any (λ change. change) c.in_ok-changes.changes.items ≡ true = ap (list_any (λ change. change)) (sym c.as_slice.ensures.value) ∙ sym c.any_changes.ensures ∙ c.if-not-any_changes.false in
    at_working (λ r. AreWritable (nodes_at e) r directory target.trail target.block files c.as_slice-2.result.now) a e root c.root-root.ensures (looked_on a b e c.find_target.ensures.looked l)
    (subst (λ (changes : List Bool). AreWritable (nodes_at e) root directory target.trail target.block files changes) (sym c.as_slice-2.ensures.value)
    (are_writable e root directory target.trail target.block target.count files c.in_ok-changes.changes.items last worked there.0 (later_way b e root directory target.trail mid working l c.in_ok-target.ensures.way)
    (ap length there.1 ∙ c.in_ok-target.ensures.counted) above are any
    ((λ i. next_refusals (working_tree (machine i)) (l.rest.files i) directory target.count files) ∙ c.in_ok-changes.ensures.accepted)))

pub returns : goal.returns
returns g c =
    let a : Moment = moment (g.F.Flash.device c.args.flash.now) c.args.self.now in
    let b : Moment = moment (g.F.Flash.device c.find_target.new.flash) c.find_target.new.self in
    let e : Moment = moment (g.F.Flash.device c.check_files.new.flash) c.check_files.new.self in
    let root = c.root-root.result in
    let directory = c.args.directory.now in
    let files = c.args.files.now in
    let target = c.in_ok-target.target in
    let changes = c.as_slice-2.result.now in
    let call = Call.WriteFiles c.args.directory.now c.args.files.now in
    let fine = sym c.files_refusal.ensures ∙ c.in_default.is in
    let other = eqb-false (length c.args.files.now) 0 (sym c.is_empty.ensures ∙ c.if-is_empty.false) in
    let some : 0 < length c.args.files.now = omega arith in
    let mid = worked_mounted a b c.requires (looked_worked a b c.find_target.ensures.looked) in
    let working = same_working c.args.self.now c.find_target.new.self c.find_target.ensures.looked.rest ∙ c.root-root.ensures in
    let l = c.check_files.ensures.looked in
    let looked = looked_on a b e c.find_target.ensures.looked l in
    let last = worked_mounted b e mid (looked_worked b e l) in
    let worked = same_working c.find_target.new.self c.check_files.new.self l.rest ∙ working in
    let machine : machine_at b ≡ machine_at a = worked_machine a b c.requires (looked_worked a b c.find_target.ensures.looked) in
    let accepted : refusal (machine_at a) (Call.WriteFiles c.args.directory.now c.args.files.now) ≡ None =
    ap (λ (m : Machine). refusal m (Call.WriteFiles c.args.directory.now c.args.files.now)) (sym machine) ∙ writes_is b root directory target.block mid working c.in_ok-target.ensures.led target.count files c.in_ok-target.ensures.counted fine ∙ c.in_ok-changes.ensures.accepted in
    let are : c.as_slice-2.result.now ≡ map (changes_in (working_tree (machine_at a)) c.args.directory.now) c.args.files.now = c.as_slice-2.ensures.value ∙ c.in_ok-changes.ensures.changes ∙ ap (λ (m : Machine). map (changes_in (working_tree m) c.args.directory.now) c.args.files.now) machine in
    let any : list_any (λ change. change) c.as_slice-2.result.now ≡ true = ap (list_any (λ change. change)) (c.as_slice-2.ensures.value ∙ sym c.as_slice.ensures.value) ∙ sym c.any_changes.ensures ∙ c.if-not-any_changes.false in
    let by = writes_change a e directory files changes c.requires looked accepted c.names-names.ensures.lawful c.in_ok-changes.ensures.lawful some are any in
    let there = later_target b e root directory target.block mid working l c.in_ok-target.ensures.led in
    let few = writes_few a e root directory target.trail target.block files changes c.requires last c.root-root.ensures worked looked by are (later_way b e root directory target.trail mid working l c.in_ok-target.ensures.way) there.0 in
    change_by a e (g.F.Flash.device c.change.new.flash) c.change.new.storage c.change.new.history c.change.new.group root call c.change.result c.change.ensures
    by few c.requires c.root-root.ensures looked refl (λ _. refl)
