use Rattle.std.proofs.Common.{◌∙◌, Option, inl, inr, refl, ap}
use Rattle.std.proofs.lemmas.Result.{err_from_is_err_and}
use Rattle.std.specs.Option.{option_or}
use Rattle.fs_types.specs.declared.fault.Fault.{Fault}
use Rattle.history_machine.specs.History.{view_refusal}
use Rattle.system.proofs.systems.System.show_same_root.Goals as goal

pub returns-in_err-check_power-clause-err : goal.returns-in_err-check_power-clause-err
returns-in_err-check_power-clause-err c =
    let p = err_from_is_err_and c.from_residual.result c.from_residual.ensures.1 in
    rw (p.1, p.2) (inl (c.in_err-check_power.ensures.off.1, c.in_err-check_power.ensures.off.0))

pub returns-in_err-first-clause-err : goal.returns-in_err-first-clause-err
returns-in_err-first-clause-err c =
    let p = err_from_is_err_and c.from_residual-in_err-first.result c.from_residual-in_err-first.ensures.1 in
    rw (p.1, p.2) (inr (c.in_ok-check_power.ensures.ok, ap (λ (o : Option Fault). option_or o (view_refusal c.args.self.now.state.history c.args.other.now)) c.in_err-first.ensures))

pub returns-in_err-second-clause-err : goal.returns-in_err-second-clause-err
returns-in_err-second-clause-err c =
    let p = err_from_is_err_and c.from_residual-in_err-second.result c.from_residual-in_err-second.ensures.1 in
    rw (p.1, p.2) (inr (c.in_ok-check_power.ensures.ok, ap (λ (o : Option Fault). option_or o (view_refusal c.args.self.now.state.history c.args.other.now)) c.in_ok-first.ensures.0 ∙ c.in_err-second.ensures))

pub returns-clause-shown : goal.returns-clause-shown
returns-clause-shown c = record {
  is_on = c.in_ok-check_power.ensures.ok;
  first = c.in_ok-first.ensures.0;
  second = c.in_ok-second.ensures.0;
  root = c.in_ok-first.first;
  other_root = c.in_ok-second.second;
  shown = c.in_ok-first.ensures.1;
  other_shown = c.in_ok-second.ensures.1;
  compared = refl;
}
