use Rattle.std.proofs.Common.{◌≡◌, Err, Some, None, length, cond, sym, ap, ◌∙◌, inl, inr}
use Rattle.std.proofs.lemmas.Bool.{lt-ltb, le-ltb}
use Rattle.std.specs.Prelude.{nat_lt}
use Rattle.directory.specs.Lookups.{look_up}
use Rattle.std.proofs.lemmas.Result.{err_from_is_err_and}
use Rattle.fs_types.specs.Names.{Path}
use Rattle.fs_types.specs.NamedFiles.{path_in}
use Rattle.fs_types.specs.declared.fault.Fault.TheVariants.{TooBig}
use Rattle.history_machine.specs.Descriptors.{is_open}
use Rattle.history_machine.specs.Machine.{working_tree, size_refusal, write_file_changes}
use Rattle.history_machine.specs.NextFiles.{next_refusal}
use Rattle.working_state.specs.Moments.{Moment, moment, machine_at, seen_at}
use Rattle.working_state.proofs.FileChanges.{looked_itself}
use Rattle.working_state.proofs.ManyFiles.{next_at, next_with, next_takes, led_file, not_damaged, reads_refused, refused_later, at_refused, place_refuses, size_tells}
use Rattle.working_state.proofs.PathCalls.{damaged_says}
use Rattle.working_state.proofs.Standing.{looked_at, looked_on, looked_worked, worked_mounted, worked_machine}
use Rattle.working_state.proofs.state.State.check_next.Goals as goal

pub returns-in_err-path-clause-looked : goal.returns-in_err-path-clause-looked
returns-in_err-path-clause-looked g c = looked_itself (moment (g.F.Flash.device c.args.flash.now) c.args.self.now)

pub returns-in_err-found-clause-looked : goal.returns-in_err-found-clause-looked
returns-in_err-found-clause-looked g c = looked_at (moment (g.F.Flash.device c.args.flash.now) c.args.self.now) (g.F.Flash.device c.find_in.new.flash) c.find_in.new.storage c.find_in.ensures.looked

pub returns-in_err-found-clause-refused : goal.returns-in_err-found-clause-refused
returns-in_err-found-clause-refused g c =
    let p = err_from_is_err_and c.from_residual-in_err-found.result c.from_residual-in_err-found.ensures.1 in
    let a : Moment = moment (g.F.Flash.device c.args.flash.now) c.args.self.now in
    let b : Moment = moment (g.F.Flash.device c.find_in.new.flash) (record c.args.self.now { storage = c.find_in.new.storage }) in
    let fault = c.in_err-found.field-0.0 in
    let ends = c.in_err-found.ensures in
    at_refused a b (next_refusal (working_tree (machine_at a)) a.state.files c.args.directory.now c.args.count c.args.file.now) fault c.from_residual-in_err-found.result (p.1 ∙ ap Err p.2)
    (inr (reads_refused (seen_at a) (seen_at b) fault
    (λ is. not_damaged a c.args.root c.args.directory.now c.args.block c.args.file.now.name c.requires.mounted c.requires.working c.requires.led (damaged_says fault ends.damaged is)) ends.why ends.faults))

pub returns-in_err-count-clause-looked : goal.returns-in_err-count-clause-looked
returns-in_err-count-clause-looked g c = looked_at (moment (g.F.Flash.device c.args.flash.now) c.args.self.now) (g.F.Flash.device c.find_in.new.flash) c.find_in.new.storage c.find_in.ensures.looked

pub returns-in_err-count-clause-refused : goal.returns-in_err-count-clause-refused
returns-in_err-count-clause-refused g c =
    let p = err_from_is_err_and c.from_residual-in_err-count.result c.from_residual-in_err-count.ensures.1 in
    let a : Moment = moment (g.F.Flash.device c.args.flash.now) c.args.self.now in
    let b : Moment = moment (g.F.Flash.device c.find_in.new.flash) (record c.args.self.now { storage = c.find_in.new.storage }) in
    let file = c.args.file.now in
    let refused = next_refusal (working_tree (machine_at a)) a.state.files c.args.directory.now c.args.count file in
    let fault = c.in_err-count.field-0.0 in
    at_refused a b refused fault c.from_residual-in_err-count.result (p.1 ∙ ap Err p.2)
    (inl (place_refuses (is_open a.state.files (path_in c.args.directory.now file)) c.is_open.result c.args.count c.in_ok-found.found (size_refusal file.bytes) fault refused
    (next_at a c.args.root c.args.directory.now c.args.block c.requires.mounted c.requires.working c.requires.led file c.in_ok-found.found c.in_ok-found.ensures.found c.args.count)
    (c.is_open.ensures ∙ ap (λ (path : Path). is_open c.args.self.now.files path) c.in_ok-path.ensures) c.in_err-count.ensures.err))

pub returns-then-bytes-clause-looked : goal.returns-then-bytes-clause-looked
returns-then-bytes-clause-looked g c = looked_at (moment (g.F.Flash.device c.args.flash.now) c.args.self.now) (g.F.Flash.device c.find_in.new.flash) c.find_in.new.storage c.find_in.ensures.looked

pub returns-then-bytes-clause-refused : goal.returns-then-bytes-clause-refused
returns-then-bytes-clause-refused g c =
    let a : Moment = moment (g.F.Flash.device c.args.flash.now) c.args.self.now in
    let file = c.args.file.now in
    let refused = next_refusal (working_tree (machine_at a)) a.state.files c.args.directory.now c.args.count file in
    inl (size_tells (is_open a.state.files (path_in c.args.directory.now file)) c.is_open.result c.args.count c.in_ok-found.found (size_refusal file.bytes) (Some TooBig) refused
    (next_at a c.args.root c.args.directory.now c.args.block c.requires.mounted c.requires.working c.requires.led file c.in_ok-found.found c.in_ok-found.ensures.found c.args.count)
    (c.is_open.ensures ∙ ap (λ (path : Path). is_open c.args.self.now.files path) c.in_ok-path.ensures) c.in_ok-count.ensures.ok
    (ap (λ b. cond b (Some TooBig) None) (ap (λ bytes. nat_lt 16777216 (length bytes)) (sym c.as_slice-bytes.ensures) ∙ lt-ltb 16777216 (length c.as_slice-bytes.result.now) c.if-bytes.true)))

pub has_bytes-requires-clause-mounted : goal.has_bytes-requires-clause-mounted
has_bytes-requires-clause-mounted g c =
    let a : Moment = moment (g.F.Flash.device c.args.flash.now) c.args.self.now in
    let b : Moment = moment (g.F.Flash.device c.find_in.new.flash) (record c.args.self.now { storage = c.find_in.new.storage }) in
    worked_mounted a b c.requires.mounted (looked_worked a b (looked_at a (g.F.Flash.device c.find_in.new.flash) c.find_in.new.storage c.find_in.ensures.looked))

pub has_bytes-requires-clause-found : goal.has_bytes-requires-clause-found
has_bytes-requires-clause-found g c =
    let a : Moment = moment (g.F.Flash.device c.args.flash.now) c.args.self.now in
    (λ i. look_up (c.find_in.ensures.nodes i) c.args.root (c.in_ok-path.ensures i))
    ∙ led_file a c.args.root c.args.directory.now c.args.block c.requires.mounted c.requires.working c.requires.led c.args.file.now c.in_ok-found.found c.in_ok-found.ensures.found

pub has_bytes-requires-clause-takes : goal.has_bytes-requires-clause-takes
has_bytes-requires-clause-takes g c =
    let a : Moment = moment (g.F.Flash.device c.args.flash.now) c.args.self.now in
    next_takes a c.args.root c.args.directory.now c.args.block c.requires.mounted c.requires.working c.requires.led c.args.file.now c.in_ok-found.found c.in_ok-found.ensures.found c.is_open.result c.args.count
    c.requires.counted c.in_ok-count.ensures.ok

pub returns-in_err-same-clause-looked : goal.returns-in_err-same-clause-looked
returns-in_err-same-clause-looked g c =
    let a : Moment = moment (g.F.Flash.device c.args.flash.now) c.args.self.now in
    let b : Moment = moment (g.F.Flash.device c.find_in.new.flash) (record c.args.self.now { storage = c.find_in.new.storage }) in
    let d : Moment = moment (g.F.Flash.device c.has_bytes.new.flash) c.has_bytes.new.self in
    looked_on a b d (looked_at a (g.F.Flash.device c.find_in.new.flash) c.find_in.new.storage c.find_in.ensures.looked) c.has_bytes.ensures.looked

pub returns-in_err-same-clause-refused : goal.returns-in_err-same-clause-refused
returns-in_err-same-clause-refused g c =
    let p = err_from_is_err_and c.from_residual-in_err-same.result c.from_residual-in_err-same.ensures.1 in
    let a : Moment = moment (g.F.Flash.device c.args.flash.now) c.args.self.now in
    let b : Moment = moment (g.F.Flash.device c.find_in.new.flash) (record c.args.self.now { storage = c.find_in.new.storage }) in
    let d : Moment = moment (g.F.Flash.device c.has_bytes.new.flash) c.has_bytes.new.self in
    let refused = next_refusal (working_tree (machine_at a)) a.state.files c.args.directory.now c.args.count c.args.file.now in
    let fault = c.in_err-same.field-0.0 in
    at_refused a d refused fault c.from_residual-in_err-same.result (p.1 ∙ ap Err p.2)
    (refused_later a b d refused fault (looked_at a (g.F.Flash.device c.find_in.new.flash) c.find_in.new.storage c.find_in.ensures.looked) (inr c.in_err-same.ensures.why))

pub returns-clause-looked : goal.returns-clause-looked
returns-clause-looked g c =
    let a : Moment = moment (g.F.Flash.device c.args.flash.now) c.args.self.now in
    let b : Moment = moment (g.F.Flash.device c.find_in.new.flash) (record c.args.self.now { storage = c.find_in.new.storage }) in
    let d : Moment = moment (g.F.Flash.device c.has_bytes.new.flash) c.has_bytes.new.self in
    looked_on a b d (looked_at a (g.F.Flash.device c.find_in.new.flash) c.find_in.new.storage c.find_in.ensures.looked) c.has_bytes.ensures.looked

pub returns-clause-counted : goal.returns-clause-counted
returns-clause-counted g c =
    let a : Moment = moment (g.F.Flash.device c.args.flash.now) c.args.self.now in
    c.in_ok-count.ensures.counted
    ∙ sym (next_with a c.args.root c.args.directory.now c.args.block c.requires.mounted c.requires.working c.requires.led c.args.file.now c.in_ok-found.found c.in_ok-found.ensures.found c.args.count)

pub returns-clause-changes : goal.returns-clause-changes
returns-clause-changes g c =
    let a : Moment = moment (g.F.Flash.device c.args.flash.now) c.args.self.now in
    let b : Moment = moment (g.F.Flash.device c.find_in.new.flash) (record c.args.self.now { storage = c.find_in.new.storage }) in
    let same : machine_at b ≡ machine_at a = worked_machine a b c.requires.mounted (looked_worked a b (looked_at a (g.F.Flash.device c.find_in.new.flash) c.find_in.new.storage c.find_in.ensures.looked)) in
    (λ i. write_file_changes (working_tree (sym same i)) (sym c.in_ok-path.ensures i) (sym c.as_slice-bytes.ensures i)) ∙ c.in_ok-same.ensures.same

pub returns-clause-accepted : goal.returns-clause-accepted
returns-clause-accepted g c =
    let a : Moment = moment (g.F.Flash.device c.args.flash.now) c.args.self.now in
    let file = c.args.file.now in
    let refused = next_refusal (working_tree (machine_at a)) a.state.files c.args.directory.now c.args.count file in
    size_tells (is_open a.state.files (path_in c.args.directory.now file)) c.is_open.result c.args.count c.in_ok-found.found (size_refusal file.bytes) None refused
    (next_at a c.args.root c.args.directory.now c.args.block c.requires.mounted c.requires.working c.requires.led file c.in_ok-found.found c.in_ok-found.ensures.found c.args.count)
    (c.is_open.ensures ∙ ap (λ (path : Path). is_open c.args.self.now.files path) c.in_ok-path.ensures) c.in_ok-count.ensures.ok
    (ap (λ b. cond b (Some TooBig) None) (ap (λ bytes. nat_lt 16777216 (length bytes)) (sym c.as_slice-bytes.ensures) ∙ le-ltb 16777216 (length c.as_slice-bytes.result.now) c.if-bytes.false))
