use Rattle.std.proofs.Common.{◌≡◌, Err, ◌+◌, [], ◌∷◌, ◌++◌, length, take, map, sym, ap, refl, ◌∙◌, arith}
use Rattle.std.proofs.lemmas.List.{map_more, take_all}
use Rattle.std.proofs.lemmas.Result.{err_from_is_err_and}
use Rattle.std.specs.List.{list_all}
use Rattle.fs_types.specs.Names.{is_name}
use Rattle.fs_types.specs.declared.named_file.NamedFile.{NamedFile}
use Rattle.history_machine.specs.Machine.{working_tree}
use Rattle.history_machine.specs.NextFiles.{next_refusal, next_count, next_refusals, next_counts}
use Rattle.history_machine.proofs.NextFiles.{refusals-more, counts-more, counts-grow, refusals-part}
use Rattle.working_state.specs.Moments.{Moment, moment, machine_at}
use Rattle.working_state.proofs.ChosenFiles.{changes_in}
use Rattle.working_state.proofs.FileChanges.{looked_itself}
use Rattle.working_state.proofs.ManyFiles.{later_target, refused_later, at_refused, part_refused, names-more}
use Rattle.working_state.proofs.Standing.{looked_on, looked_worked, worked_mounted, worked_machine, same_working}
use Rattle.working_state.proofs.state.State.check_files.Goals as goal

pub loop-file-init : goal.loop-file-init
loop-file-init g c = record {
  looked = looked_itself (moment (g.F.Flash.device c.args.flash.now) c.args.self.now);
  lawful = refl;
  accepted = refl;
  counted = refl;
  listed = c.new-changes.ensures.items;
}

pub check_next-requires-clause-mounted : goal.check_next-requires-clause-mounted
check_next-requires-clause-mounted g c =
    let a : Moment = moment (g.F.Flash.device c.args.flash.now) c.args.self.now in
    let b : Moment = moment (g.F.Flash.device c.loop-file.flash) c.loop-file.self in
    worked_mounted a b c.requires.mounted (looked_worked a b c.loop-file.invariant.looked)

pub check_next-requires-clause-working : goal.check_next-requires-clause-working
check_next-requires-clause-working g c = same_working c.args.self.now c.loop-file.self c.loop-file.invariant.looked.rest ∙ c.requires.working

pub check_next-requires-clause-led : goal.check_next-requires-clause-led
check_next-requires-clause-led g c =
    let a : Moment = moment (g.F.Flash.device c.args.flash.now) c.args.self.now in
    let b : Moment = moment (g.F.Flash.device c.loop-file.flash) c.loop-file.self in
    (later_target a b c.args.root c.args.directory.now c.args.target.now.block c.requires.mounted c.requires.working c.loop-file.invariant.looked c.requires.led).0

pub check_next-requires-clause-counted : goal.check_next-requires-clause-counted
check_next-requires-clause-counted g c =
    let a : Moment = moment (g.F.Flash.device c.args.flash.now) c.args.self.now in
    let b : Moment = moment (g.F.Flash.device c.loop-file.flash) c.loop-file.self in
    let same = ap length (later_target a b c.args.root c.args.directory.now c.args.target.now.block c.requires.mounted c.requires.working c.loop-file.invariant.looked c.requires.led).1 in
    let grown = counts-grow (working_tree (machine_at a)) c.args.directory.now c.args.target.now.count (take c.loop-file.file-index c.args.files.now) in
    omega (arith, same, grown, c.loop-file.invariant.counted, c.requires.counted)

pub returns-in_err-checked-clause-looked : goal.returns-in_err-checked-clause-looked
returns-in_err-checked-clause-looked g c =
    let a : Moment = moment (g.F.Flash.device c.args.flash.now) c.args.self.now in
    let b : Moment = moment (g.F.Flash.device c.loop-file.flash) c.loop-file.self in
    let d : Moment = moment (g.F.Flash.device c.check_next.new.flash) c.check_next.new.self in
    looked_on a b d c.loop-file.invariant.looked c.check_next.ensures.looked

pub returns-in_err-checked-clause-refused : goal.returns-in_err-checked-clause-refused
returns-in_err-checked-clause-refused g c =
    let p = err_from_is_err_and c.from_residual.result c.from_residual.ensures.1 in
    let a : Moment = moment (g.F.Flash.device c.args.flash.now) c.args.self.now in
    let b : Moment = moment (g.F.Flash.device c.loop-file.flash) c.loop-file.self in
    let d : Moment = moment (g.F.Flash.device c.check_next.new.flash) c.check_next.new.self in
    let inv = c.loop-file.invariant in
    let t = working_tree (machine_at a) in
    let k = c.loop-file.file-index in
    let file = c.file-item.result in
    let fault = c.in_err-checked.field-0.0 in
    let machine : machine_at b ≡ machine_at a = worked_machine a b c.requires.mounted (looked_worked a b inv.looked) in
    let same : next_refusal (working_tree (machine_at b)) b.state.files c.args.directory.now c.loop-file.count c.file-item.result ≡ next_refusal (working_tree (machine_at a)) a.state.files c.args.directory.now (next_counts (working_tree (machine_at a)) c.args.directory.now c.args.target.now.count (take c.loop-file.file-index c.args.files.now)) c.file-item.result =
    (λ i. next_refusal (working_tree (machine i)) (inv.looked.rest.files i) c.args.directory.now (inv.counted i) c.file-item.result) in
    at_refused a d (next_refusals t a.state.files c.args.directory.now c.args.target.now.count c.args.files.now) fault c.from_residual.result (p.1 ∙ ap Err p.2)
    (refused_later a b d (next_refusals t a.state.files c.args.directory.now c.args.target.now.count c.args.files.now) fault inv.looked
    (part_refused b d (next_refusal (working_tree (machine_at b)) b.state.files c.args.directory.now c.loop-file.count file) (next_refusals t a.state.files c.args.directory.now c.args.target.now.count c.args.files.now) fault
    (λ told. refusals-part t a.state.files c.args.directory.now c.args.target.now.count c.args.files.now (k + 1) fault
    (refusals-more t a.state.files c.args.directory.now c.args.target.now.count c.args.files.now k file c.loop-file-test.true c.file-item.is inv.accepted ∙ sym same ∙ told))
    c.in_err-checked.ensures.refused))

pub returns-in_err-push-clause-looked : goal.returns-in_err-push-clause-looked
returns-in_err-push-clause-looked g c =
    let a : Moment = moment (g.F.Flash.device c.args.flash.now) c.args.self.now in
    let b : Moment = moment (g.F.Flash.device c.loop-file.flash) c.loop-file.self in
    let d : Moment = moment (g.F.Flash.device c.check_next.new.flash) c.check_next.new.self in
    looked_on a b d c.loop-file.invariant.looked c.check_next.ensures.looked

pub loop-file-preserved : goal.loop-file-preserved
loop-file-preserved g c =
    let a : Moment = moment (g.F.Flash.device c.args.flash.now) c.args.self.now in
    let b : Moment = moment (g.F.Flash.device c.loop-file.flash) c.loop-file.self in
    let d : Moment = moment (g.F.Flash.device c.check_next.new.flash) c.check_next.new.self in
    let inv = c.loop-file.invariant in
    let ok = c.in_ok-checked.ensures in
    let t = working_tree (machine_at a) in
    let k = c.loop-file.file-index in
    let file = c.file-item.result in
    let directory = c.args.directory.now in
    let machine : machine_at b ≡ machine_at a = worked_machine a b c.requires.mounted (looked_worked a b inv.looked) in
    record {
      looked = looked_on a b d inv.looked c.check_next.ensures.looked;
      lawful = names-more c.args.files.now k file c.loop-file-test.true c.file-item.is inv.lawful ok.lawful;
      accepted = refusals-more t a.state.files directory c.args.target.now.count c.args.files.now k file c.loop-file-test.true c.file-item.is inv.accepted
          ∙ (λ i. next_refusal (working_tree (sym machine i)) (sym inv.looked.rest.files i) directory (sym inv.counted i) file) ∙ ok.accepted;
      counted = ok.counted ∙ (λ i. next_count (working_tree (machine i)) directory (inv.counted i) file) ∙ sym (counts-more t directory c.args.target.now.count c.args.files.now k file c.loop-file-test.true c.file-item.is);
      listed = c.in_ok-push.ensures.items ∙ (λ i. inv.listed i ++ sym ok.changes i ∷ []) ∙ (λ i. map (changes_in t directory) (take k c.args.files.now) ++ changes_in (working_tree (machine i)) directory (c.file-item.is i) ∷ [])
          ∙ sym (map_more (changes_in t directory) c.args.files.now k file c.loop-file-test.true);
    }

pub returns-clause-looked : goal.returns-clause-looked
returns-clause-looked g c = c.loop-file.invariant.looked

pub returns-clause-changes : goal.returns-clause-changes
returns-clause-changes g c =
    let a : Moment = moment (g.F.Flash.device c.args.flash.now) c.args.self.now in
    c.loop-file.invariant.listed ∙ ap (map (changes_in (working_tree (machine_at a)) c.args.directory.now)) (take_all c.loop-file.file-index c.args.files.now c.loop-file-test.false)

pub returns-clause-lawful : goal.returns-clause-lawful
returns-clause-lawful g c =
    ap (list_all (λ (file : NamedFile). is_name file.name)) (sym (take_all c.loop-file.file-index c.args.files.now c.loop-file-test.false)) ∙ c.loop-file.invariant.lawful

pub returns-clause-accepted : goal.returns-clause-accepted
returns-clause-accepted g c =
    let a : Moment = moment (g.F.Flash.device c.args.flash.now) c.args.self.now in
    ap (next_refusals (working_tree (machine_at a)) a.state.files c.args.directory.now c.args.target.now.count) (sym (take_all c.loop-file.file-index c.args.files.now c.loop-file-test.false)) ∙ c.loop-file.invariant.accepted
