use Rattle.std.proofs.lemmas.Result.{err_from_is_err_and}
use Rattle.fs_types.specs.Requests.{call_of}
use Rattle.std.proofs.Common.{sym, subst}
use Rattle.std.proofs.lemmas.Bool.{both_ways}
use Rattle.working_state.specs.Moments.{moment}
use Rattle.working_state.specs.OpenBodies.{KnowsBodies}
use Rattle.working_state.specs.declared.state.State.{State}
use Rattle.working_state.proofs.BodiesAfter.{call_knows}
use Rattle.working_state.proofs.Refusals.{remembered_mounted, remembered_step}
use Rattle.working_state.proofs.Steps.{off_step, refused_group}
use Rattle.working_state.proofs.state.State.carry_out.Goals as goal

pub returns-in_err-check_power-clause-step : goal.returns-in_err-check_power-clause-step
returns-in_err-check_power-clause-step g c =
    let p = err_from_is_err_and c.from_residual.result c.from_residual.ensures.1 in
    rw (p.1, p.2) (off_step (moment (g.F.Flash.device c.args.flash.now) c.args.self.now) (call_of c.args.request) c.in_err-check_power.field-0.0 c.in_err-check_power.ensures.off)

pub returns-in_err-check_group-clause-step : goal.returns-in_err-check_group-clause-step
returns-in_err-check_group-clause-step g c =
    let p = err_from_is_err_and c.from_residual-in_err-check_group.result c.from_residual-in_err-check_group.ensures.1 in
    rw (p.1, p.2) (refused_group (moment (g.F.Flash.device c.args.flash.now) c.args.self.now) (call_of c.args.request) c.in_err-check_group.field-0.0 c.in_ok-check_power.ensures.ok c.in_err-check_group.ensures.err)

pub returns-clause-mounted : goal.returns-clause-mounted
returns-clause-mounted g c =
    remembered_mounted (moment (g.F.Flash.device c.args.flash.now) c.args.self.now) (moment (g.F.Flash.device c.answer-answer.new.flash) c.answer-answer.new.self) c.remember_cut.new.self (call_of c.args.request)
    c.answer-answer.result c.remember_cut.ensures.off c.answer-answer.ensures.answered.mounted c.answer-answer.ensures.answered.step

pub returns-clause-step : goal.returns-clause-step
returns-clause-step g c =
    remembered_step (moment (g.F.Flash.device c.args.flash.now) c.args.self.now) (moment (g.F.Flash.device c.answer-answer.new.flash) c.answer-answer.new.self) c.remember_cut.new.self (call_of c.args.request)
    c.answer-answer.result c.remember_cut.result c.remember_cut.ensures.same c.in_ok-check_power.ensures.ok c.remember_cut.ensures.off c.requires.told c.answer-answer.ensures.answered

pub returns-clause-pages : goal.returns-clause-pages
returns-clause-pages g c = c.answer-answer.ensures.answered.pages

pub returns-clause-known : goal.returns-clause-known
returns-clause-known g c =
    let e = g.F.Flash.device c.answer-answer.new.flash in
    subst (λ (t : State). KnowsBodies e t c.forget_bodies.new.bodies) (sym c.remember_cut.ensures.off)
    (call_knows (moment (g.F.Flash.device c.args.flash.now) c.args.self.now) (moment e c.answer-answer.new.self) (call_of c.args.request) c.answer-answer.result c.answer-answer.new.bodies c.forget_bodies.new.bodies c.root-root.result
    c.answer-answer.ensures.answered (c.answer-answer.ensures.known c.root-root.result c.root-root.ensures) c.forget_bodies.ensures.same c.forget_bodies.ensures.other)

pub returns-clause-stopped : goal.returns-clause-stopped
returns-clause-stopped g c = λ off. absurd (both_ways c.args.self.now.is_off c.in_ok-check_power.ensures.ok off)
