use Rattle.std.proofs.Common.{Err, ap, ◌∙◌, rules}
use Rattle.std.proofs.lemmas.Result.{err_from_is_err_and}
use Rattle.fs_types.specs.Requests.{call_of}
use Rattle.system.proofs.Twice.{tried_call, still_on, is_done, is_refused, is_again}
use Rattle.system.proofs.systems.System.call.Goals as goal

pub makes_room-requires : goal.makes_room-requires
makes_room-requires g c =
    let d = g.F.Flash.device c.args.flash.now in
    let b = g.F.Flash.device c.try_call-first.new.flash in
    let tried = tried_call d b c.args.self.now c.try_call-first.new.self (call_of c.args.request) c.try_call-first.result c.requires c.try_call-first.ensures.system c.try_call-first.ensures.step in
    record { system = tried.left; is_on = still_on d b c.args.self.now c.try_call-first.new.self (call_of c.args.request) c.try_call-first.result tried }

pub returns-in_err-makes_room-clause-step : goal.returns-in_err-makes_room-clause-step
returns-in_err-makes_room-clause-step g c =
    let d = g.F.Flash.device c.args.flash.now in
    let b = g.F.Flash.device c.try_call-first.new.flash in
    let tried = tried_call d b c.args.self.now c.try_call-first.new.self (call_of c.args.request) c.try_call-first.result c.requires c.try_call-first.ensures.system c.try_call-first.ensures.step in
    let p = err_from_is_err_and c.from_residual.result c.from_residual.ensures.1 in
    is_refused d b c.args.self.now c.try_call-first.new.self (call_of c.args.request) c.try_call-first.result tried
    (g.F.Flash.device c.makes_room.new.flash) c.makes_room.new.self c.in_err-makes_room.field-0.0 c.in_err-makes_room.ensures.room c.from_residual.result (p.1 ∙ ap Err p.2)

pub returns-then-not-branch-clause-step : goal.returns-then-not-branch-clause-step
returns-then-not-branch-clause-step g c =
    let d = g.F.Flash.device c.args.flash.now in
    let b = g.F.Flash.device c.try_call-first.new.flash in
    let tried = tried_call d b c.args.self.now c.try_call-first.new.self (call_of c.args.request) c.try_call-first.result c.requires c.try_call-first.ensures.system c.try_call-first.ensures.step in
    is_done d b c.args.self.now c.try_call-first.new.self (call_of c.args.request) c.try_call-first.result tried
    (g.F.Flash.device c.makes_room.new.flash) c.makes_room.new.self c.in_ok-makes_room.field-0 (search rules) c.in_ok-makes_room.ensures.room

pub returns-clause-step : goal.returns-clause-step
returns-clause-step g c =
    let d = g.F.Flash.device c.args.flash.now in
    let b = g.F.Flash.device c.try_call-first.new.flash in
    let tried = tried_call d b c.args.self.now c.try_call-first.new.self (call_of c.args.request) c.try_call-first.result c.requires c.try_call-first.ensures.system c.try_call-first.ensures.step in
    is_again d b c.args.self.now c.try_call-first.new.self (call_of c.args.request) c.try_call-first.result tried
    (g.F.Flash.device c.makes_room.new.flash) (g.F.Flash.device c.try_call.new.flash) c.makes_room.new.self c.try_call.new.self c.in_ok-makes_room.field-0 (search rules) c.in_ok-makes_room.ensures.room c.makes_room.ensures.system c.try_call.result c.try_call.ensures.step
