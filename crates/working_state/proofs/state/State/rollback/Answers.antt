-- A name that is not there is refused as the machine refuses it; a change to its root is the machine's change to its tree.
use Rattle.std.proofs.Common.{◌∙◌, inl}
use Rattle.std.proofs.lemmas.Result.{err_from_is_err_and}
use Rattle.std.specs.Option.{is_some}
use Rattle.history_machine.specs.History.{name_refusal}
use Rattle.history_machine.specs.HistoryMaps.{name_refusal-map}
use Rattle.fs_types.specs.declared.call.Call.{Call}
use Rattle.fs_types.specs.declared.fault.Fault.{Fault}
use Rattle.working_state.specs.Moments.{Moment, moment}
use Rattle.working_state.specs.Mounted.{IsStanding}
use Rattle.working_state.specs.Seen.{tree_on}
use Rattle.working_state.proofs.ChangedCalls.{mounted_ready}
use Rattle.working_state.proofs.GroupRefusals.{outside_of, closed_of}
use Rattle.working_state.proofs.PathCalls.{working_stands}
use Rattle.working_state.proofs.Rollbacks.{rollback_answer}
use Rattle.working_state.proofs.Roots.{of_checkpoint}
use Rattle.working_state.proofs.Steps.{works_travelling, still_refused, refused, no_cut, name-no_cut}
use Rattle.working_state.proofs.state.State.rollback.Goals as goal

pub returns-in_err-root : goal.returns-in_err-root
returns-in_err-root g c =
    let device = g.F.Flash.device c.args.flash.now in
    let s = c.args.self.now in
    let a : Moment = moment device s in
    let name = c.args.name.now in
    let fault = c.in_err-root.field-0.0 in
    let p = err_from_is_err_and c.from_residual.result c.from_residual.ensures.1 in
    rw (p.1, p.2) (still_refused a (Call.Rollback name) fault c.requires.on c.requires.mounted (refused a (Call.Rollback name) fault c.requires.on (no_cut (name_refusal s.history name) fault (name-no_cut s.history name) c.in_err-root.ensures) (inl (works_travelling a _ c.requires.allowed ∙ name_refusal-map (tree_on device) s.history name ∙ c.in_err-root.ensures))))

pub change-requires-clause-ready : goal.change-requires-clause-ready
change-requires-clause-ready g c = mounted_ready (moment (g.F.Flash.device c.args.flash.now) c.args.self.now) c.requires.mounted

pub change-requires-clause-stands : goal.change-requires-clause-stands
change-requires-clause-stands g c = λ root working. working_stands (moment (g.F.Flash.device c.args.flash.now) c.args.self.now) root c.requires.mounted working

pub change-requires-clause-editable : goal.change-requires-clause-editable
change-requires-clause-editable g c = λ root working.
    let device = g.F.Flash.device c.args.flash.now in
    let s = c.args.self.now in
    let stands = of_checkpoint (IsStanding device s.storage.ring) s c.args.name.now c.in_ok-root.field-0.now c.requires.mounted.roots c.in_ok-root.ensures in
    (stands.held, stands.rooted)

pub returns : goal.returns
returns g c =
    let s = c.args.self.now in
    rollback_answer (moment (g.F.Flash.device c.args.flash.now) s) (g.F.Flash.device c.change.new.flash) c.change.new.storage c.change.new.history c.change.new.group c.args.name.now c.in_ok-root.field-0.now c.change.result
    c.requires.mounted c.requires.on (outside_of s.group _ c.requires.allowed) (closed_of (is_some s.group) Fault.InGroup s.files c.requires.allowed) c.in_ok-root.ensures c.change.ensures
