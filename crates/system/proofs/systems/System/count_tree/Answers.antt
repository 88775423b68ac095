use Rattle.std.proofs.lemmas.Result.{err_from_is_err_and}
use Rattle.system.proofs.TreeSizes.{size_stopped, size_refused, size_counted}
use Rattle.system.proofs.systems.System.count_tree.Goals as goal

pub returns-in_err-check_power-clause-step : goal.returns-in_err-check_power-clause-step
returns-in_err-check_power-clause-step g c =
    let p = err_from_is_err_and c.from_residual.result c.from_residual.ensures.1 in
    rw (p.1, p.2) (size_stopped (g.F.Flash.device c.args.flash.now) c.args.self.now c.args.view.now c.in_err-check_power.field-0.0 c.in_err-check_power.ensures.off.0 c.in_err-check_power.ensures.off.1)

pub returns-in_err-root-clause-step : goal.returns-in_err-root-clause-step
returns-in_err-root-clause-step g c =
    let p = err_from_is_err_and c.from_residual-in_err-root.result c.from_residual-in_err-root.ensures.1 in
    rw (p.1, p.2) (size_refused (g.F.Flash.device c.args.flash.now) c.args.self.now c.args.view.now c.in_err-root.field-0.0 c.in_ok-check_power.ensures.ok c.in_err-root.ensures)

pub returns-clause-step : goal.returns-clause-step
returns-clause-step g c =
    size_counted (g.F.Flash.device c.args.flash.now) (g.F.Flash.device c.count_below.new.flash) c.args.self.now c.count_below.new.self c.args.view.now c.count_below.result c.in_ok-check_power.ensures.ok c.in_ok-root.ensures.0
    (record {
      root = c.in_ok-root.root;
      shown = c.in_ok-root.ensures.1;
      looks = c.count_below.ensures.looks;
      finds = c.count_below.ensures.finds;
      asks = c.count_below.ensures.asks;
    })
