use Rattle.std.proofs.Common.{◌∙◌, Option, ap}
use Rattle.std.proofs.lemmas.Result.{err_from_is_err_and}
use Rattle.std.specs.Option.{option_or}
use Rattle.fs_types.specs.declared.fault.Fault.{Fault}
use Rattle.history_machine.specs.History.{view_refusal}
use Rattle.system.proofs.DifferingTrees.{differing_stopped, differing_refused, differing_told}
use Rattle.system.proofs.systems.System.differing_paths.Goals as goal

pub returns-in_err-check_power-clause-step : goal.returns-in_err-check_power-clause-step
returns-in_err-check_power-clause-step g c =
    let p = err_from_is_err_and c.from_residual.result c.from_residual.ensures.1 in
    rw (p.1, p.2) (differing_stopped (g.F.Flash.device c.args.flash.now) c.args.self.now c.args.view.now c.args.other.now c.in_err-check_power.field-0.0 c.in_err-check_power.ensures.off.0 c.in_err-check_power.ensures.off.1)

pub returns-in_err-root-clause-step : goal.returns-in_err-root-clause-step
returns-in_err-root-clause-step g c =
    let p = err_from_is_err_and c.from_residual-in_err-root.result c.from_residual-in_err-root.ensures.1 in
    rw (p.1, p.2) (differing_refused (g.F.Flash.device c.args.flash.now) c.args.self.now c.args.view.now c.args.other.now c.in_err-root.field-0.0 c.in_ok-check_power.ensures.ok
    (ap (λ (o : Option Fault). option_or o (view_refusal c.args.self.now.state.history c.args.other.now)) c.in_err-root.ensures))

pub returns-in_err-beside-clause-step : goal.returns-in_err-beside-clause-step
returns-in_err-beside-clause-step g c =
    let p = err_from_is_err_and c.from_residual-in_err-beside.result c.from_residual-in_err-beside.ensures.1 in
    rw (p.1, p.2) (differing_refused (g.F.Flash.device c.args.flash.now) c.args.self.now c.args.view.now c.args.other.now c.in_err-beside.field-0.0 c.in_ok-check_power.ensures.ok
    (ap (λ (o : Option Fault). option_or o (view_refusal c.args.self.now.state.history c.args.other.now)) c.in_ok-root.ensures.0 ∙ c.in_err-beside.ensures))

pub returns-clause-step : goal.returns-clause-step
returns-clause-step g c =
    differing_told (g.F.Flash.device c.args.flash.now) (g.F.Flash.device c.compare_roots.new.flash) c.args.self.now c.compare_roots.new.self c.args.view.now c.args.other.now c.compare_roots.result c.in_ok-check_power.ensures.ok
    c.in_ok-root.ensures.0 c.in_ok-beside.ensures.0
    (record {
      root = c.in_ok-root.root;
      beside = c.in_ok-beside.beside;
      shown = c.in_ok-root.ensures.1;
      other_shown = c.in_ok-beside.ensures.1;
      looks = c.compare_roots.ensures.looks;
      finds = c.compare_roots.ensures.finds;
    })
