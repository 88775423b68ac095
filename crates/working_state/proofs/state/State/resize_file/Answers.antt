use Rattle.std.proofs.Common.{◌≡◌, ℕ, Ok, Err, inl, inr, refl, ap, subst, ◌∙◌}
use Rattle.std.proofs.lemmas.Result.{err_from_is_err_and}
use Rattle.plain_trees.specs.Contents.{Entry, resized}
use Rattle.plain_trees.specs.Trees.{bytes_of_file}
use Rattle.fs_types.specs.declared.call.Call.{Call}
use Rattle.fs_types.specs.declared.call.Reply.{Reply}
use Rattle.directory.specs.declared.lookups.Found.TheVariants as found
use Rattle.directory.specs.Lookups.{look_up}
use Rattle.directory.specs.Trails.{IsTrail}
use Rattle.working_state.specs.Moments.{Moment, moment, machine_at, seen_at, nodes_at, version_tree}
use Rattle.working_state.specs.Steps.{empty}
use Rattle.working_state.proofs.LookNodes.{stands_lead}
use Rattle.working_state.proofs.ChangedCalls.{looked_ready, looked_stands, same_root, change_by}
use Rattle.working_state.proofs.FileChanges as changes
use Rattle.working_state.proofs.MovedEntries.{read_may}
use Rattle.working_state.proofs.OpenCalls.{at_answer, refused_answer}
use Rattle.working_state.proofs.Refusals.{accepted_begins}
use Rattle.working_state.proofs.Standing.{looked_at, looked_worked}
use Rattle.working_state.proofs.state.State.resize_file.Goals as goal

pub returns-in_err-path : goal.returns-in_err-path
returns-in_err-path g c =
    let p = err_from_is_err_and c.from_residual.result c.from_residual.ensures.1 in
    let a : Moment = moment (g.F.Flash.device c.args.flash.now) c.args.self.now in
    let call = Call.Ftruncate c.args.descriptor c.args.size in
    at_answer empty a a call c.in_err-path.field-0.0 c.from_residual.result (p.1 ∙ ap Err p.2)
    (refused_answer a a call c.in_err-path.field-0.0 c.requires (changes.looked_itself a) refl (inl c.in_err-path.ensures.err))

pub returns-in_err-body : goal.returns-in_err-body
returns-in_err-body g c =
    let p = err_from_is_err_and c.from_residual-in_err-body.result c.from_residual-in_err-body.ensures.1 in
    let a : Moment = moment (g.F.Flash.device c.args.flash.now) c.args.self.now in
    let b : Moment = moment (g.F.Flash.device c.find_body.new.flash) (record a.state { storage = c.find_body.new.storage }) in
    let call = Call.Ftruncate c.args.descriptor c.args.size in
    let path = c.in_ok-path.path.now in
    let looked = looked_at a b.device c.find_body.new.storage c.find_body.ensures.looked in
    at_answer empty a b call c.in_err-body.field-0.0 c.from_residual-in_err-body.result (p.1 ∙ ap Err p.2)
    (refused_answer a b call c.in_err-body.field-0.0 c.requires looked refl (inr (read_may (seen_at a) (seen_at b) (machine_at a) call c.in_err-body.field-0.0 (accepted_begins (machine_at a) call c.in_ok-path.ensures.ok refl) c.in_err-body.ensures.why)))

pub returns-then-from-size : goal.returns-then-from-size
returns-then-from-size g c =
    let a : Moment = moment (g.F.Flash.device c.args.flash.now) c.args.self.now in
    let b : Moment = moment (g.F.Flash.device c.find_body.new.flash) (record a.state { storage = c.find_body.new.storage }) in
    let path = c.in_ok-path.path.now in
    let seen = looked_worked a b (looked_at a b.device c.find_body.new.storage c.find_body.ensures.looked) in
    let there = changes.later_body a b c.root-root.result path c.in_ok-body.body.head c.in_ok-body.body.length c.requires c.root-root.ensures seen c.in_ok-body.ensures.found in
    changes.same_answer a b (Call.Ftruncate c.args.descriptor c.args.size) Reply.Empty c.requires (looked_at a b.device c.find_body.new.storage c.find_body.ensures.looked)
    (changes.ftruncate_nothing (machine_at a) c.args.descriptor c.args.size path c.in_ok-path.ensures.path
    (changes.same_length a b path c.in_ok-body.body.head c.in_ok-body.body.length c.from.result c.args.size c.requires seen there c.from.ensures c.if-from-size.true))
    c.in_ok-path.ensures.ok (λ _. refl) refl

pub find_body-requires-clause-file : goal.find_body-requires-clause-file
find_body-requires-clause-file g c =
    let a : Moment = moment (g.F.Flash.device c.args.flash.now) c.args.self.now in
    let path = c.in_ok-path.path.now in
    changes.working_file a c.root-root.result path c.requires c.root-root.ensures (changes.open_file a c.args.descriptor path c.requires c.in_ok-path.ensures.path)

pub change-requires-clause-ready : goal.change-requires-clause-ready
change-requires-clause-ready g c =
    let a : Moment = moment (g.F.Flash.device c.args.flash.now) c.args.self.now in
    let e = g.F.Flash.device c.find_body.new.flash in
    looked_ready a (moment e (record a.state { storage = c.find_body.new.storage })) c.requires (looked_at a e c.find_body.new.storage c.find_body.ensures.looked)

pub change-requires-clause-stands : goal.change-requires-clause-stands
change-requires-clause-stands g c =
    let a : Moment = moment (g.F.Flash.device c.args.flash.now) c.args.self.now in
    let e = g.F.Flash.device c.find_body.new.flash in
    looked_stands a (moment e (record a.state { storage = c.find_body.new.storage })) c.root-root.result c.requires c.root-root.ensures (looked_at a e c.find_body.new.storage c.find_body.ensures.looked)

pub change-requires-clause-editable : goal.change-requires-clause-editable
change-requires-clause-editable g c = λ other working.
    let a : Moment = moment (g.F.Flash.device c.args.flash.now) c.args.self.now in
    let b : Moment = moment (g.F.Flash.device c.find_body.new.flash) (record a.state { storage = c.find_body.new.storage }) in
    let path = c.in_ok-path.path.now in
    let looked = looked_at a b.device c.find_body.new.storage c.find_body.ensures.looked in
    let file = changes.open_file a c.args.descriptor path c.requires c.in_ok-path.ensures.path in
    let body = c.in_ok-body.body in
    let there = changes.later_body a b c.root-root.result path body.head body.length c.requires c.root-root.ensures (looked_worked a b looked) c.in_ok-body.ensures.found in
    let led : look_up (nodes_at b) other path ≡ Ok (found.File body.head body.length) =
    subst (λ (r : ℕ). look_up (nodes_at b) r path ≡ Ok (found.File body.head body.length)) (same_root c.root-root.result other a.state b.state looked.rest c.root-root.ensures working) c.in_ok-body.ensures.found in
    let way : IsTrail (nodes_at b) other path c.in_ok-body.trail =
    subst (λ (r : ℕ). IsTrail (nodes_at b) r path c.in_ok-body.trail) (same_root c.root-root.result other a.state b.state looked.rest c.root-root.ensures working) (c.in_ok-body.ensures.way (stands_lead a c.root-root.result c.requires c.root-root.ensures)) in
    (changes.file_lawful a path c.requires file, way, led, c.in_ok-path.ensures.fits)

pub returns : goal.returns
returns g c =
    let a : Moment = moment (g.F.Flash.device c.args.flash.now) c.args.self.now in
    let b : Moment = moment (g.F.Flash.device c.find_body.new.flash) (record a.state { storage = c.find_body.new.storage }) in
    let path = c.in_ok-path.path.now in
    let looked = looked_at a b.device c.find_body.new.storage c.find_body.ensures.looked in
    let file = changes.open_file a c.args.descriptor path c.requires c.in_ok-path.ensures.path in
    let there = changes.later_body a b c.root-root.result path c.in_ok-body.body.head c.in_ok-body.body.length c.requires c.root-root.ensures (looked_worked a b looked) c.in_ok-body.ensures.found in
    let other = changes.other_length a b path c.in_ok-body.body.head c.in_ok-body.body.length c.from.result c.args.size c.requires (looked_worked a b looked) there c.from.ensures c.if-from-size.false in
    let change = changes.ftruncate_change (machine_at a) c.args.descriptor c.args.size path c.in_ok-path.ensures.path c.in_ok-path.ensures.ok other (changes.below_root a path c.requires file) in
    let call = Call.Ftruncate c.args.descriptor c.args.size in
    let f = g.F.Flash.device c.change.new.flash in
    let by = changes.file_change a b call path (λ old. resized old c.args.size) Reply.Empty c.requires looked change (λ space. refl) in
    change_by a b f c.change.new.storage c.change.new.history c.change.new.group c.root-root.result call c.change.result c.change.ensures by
    (changes.ftruncate_few a b c.root-root.result c.args.descriptor c.args.size path c.in_ok-body.trail c.in_ok-body.body.head c.in_ok-body.body.length (λ r. Entry.File (resized (bytes_of_file (version_tree b r) path) c.args.size)) Reply.Empty
    c.requires c.root-root.ensures looked c.in_ok-path.ensures.path there by (c.in_ok-body.ensures.way (stands_lead a c.root-root.result c.requires c.root-root.ensures))) c.requires c.root-root.ensures looked refl (λ _. refl)
