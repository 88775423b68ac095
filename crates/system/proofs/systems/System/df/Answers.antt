use Rattle.std.proofs.Common.{Result, refl, sym, subst}
use Rattle.fs_types.specs.declared.call.Call.{Call}
use Rattle.fs_types.specs.declared.call.Reply.{Reply}
use Rattle.fs_types.specs.declared.fault.Fault.{Fault}
use Rattle.working_state.specs.Moments.{moment}
use Rattle.working_state.specs.Mounted.{IsMounted, StateStep}
use Rattle.working_state.specs.OpenBodies.{KnowsBodies}
use Rattle.working_state.specs.declared.state.State.{State}
use Rattle.working_state.proofs.BodiesAfter.{looked_knows}
use Rattle.mounting.proofs.Asking.{asks_none}
use Rattle.system.proofs.Measured.{IsMeasured, measured, measured_mounted}
use Rattle.system.proofs.StateSteps.{state_system, state_step}
use Rattle.mounting.specs.Records.{working_roots}
use Rattle.system.proofs.systems.System.df.Goals as goal

pub returns : goal.returns
returns g c =
    let d = g.F.Flash.device c.args.flash.now in
    let e = g.F.Flash.device c.measure-space.new.flash in
    let s = c.args.self.now.state in
    let t = c.remember_cut.new.self in
    let is : IsMeasured (moment d s) (moment e c.measure-space.new.state) c.measure-space.result = record { looked = c.measure-space.ensures.looked; told = c.measure-space.ensures.told; why = c.measure-space.ensures.why } in
    let mounted : IsMounted e t =
    subst (IsMounted e) (sym c.remember_cut.ensures.off)
    (measured_mounted (moment d s) (moment e c.measure-space.new.state) c.requires.mounted c.measure-space.result is) in
    let bodies = c.args.self.now.bodies in
    let known : KnowsBodies e t bodies =
    subst (λ (u : State). KnowsBodies e u bodies) (sym c.remember_cut.ensures.off)
    (looked_knows (moment d s) (moment e c.measure-space.new.state) bodies c.requires.mounted c.measure-space.ensures.looked c.requires.bodies) in
    let step : StateStep d s Call.Df c.remember_cut.result e t =
    subst (λ (r : Result Reply Fault). StateStep d s Call.Df r e t) (sym c.remember_cut.ensures.same)
    (subst (λ (u : State). StateStep d s Call.Df c.measure-space.result e u) (sym c.remember_cut.ensures.off)
    (measured (moment d s) (moment e c.measure-space.new.state) c.requires.mounted c.measure-space.result is c.in_ok-check_power.ensures.ok)) in
    record {
      system = state_system d e c.args.self.now t bodies Call.Df c.remember_cut.result c.requires step mounted known;
      step = state_step d e c.args.self.now t bodies Call.Df c.remember_cut.result c.requires step refl (λ _. refl);
      asks = c.measure-space.ensures.asks;
    }

pub returns-in_err-check_power-clause-asks : goal.returns-in_err-check_power-clause-asks
returns-in_err-check_power-clause-asks g c = asks_none (g.F.Flash.device c.args.flash.now) (working_roots c.args.self.now.state)
