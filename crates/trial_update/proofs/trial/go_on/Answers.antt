use Rattle.std.proofs.Common.{◌≡◌, ◌+◌, ◌-◌, Err, Ok, refl, ap, ◌∙◌, arith}
use Rattle.std.proofs.lemmas.Result.{err_from_is_err_and}
use Rattle.trial_update.proofs.Tried.{some_tries}
use Rattle.trial_update.proofs.trial.go_on.Goals as goal

pub returns-in_err-take_off : goal.returns-in_err-take_off
returns-in_err-take_off g c =
    let p = err_from_is_err_and c.from_residual-in_err-take_off.result c.from_residual-in_err-take_off.ensures.1 in
    let is : c.from_residual-in_err-take_off.result ≡ Err c.in_err-take_off.field-0.0 = p.1 ∙ ap (λ f. Err f) p.2 in
    let more : c.args.left ≡ (c.args.left - 1) + 1 = omega arith in
    some_tries c.args.trial.now c.args.good.now c.args.left (c.args.left - 1) c.args.fs.now (Err c.in_err-take_off.field-0.0) c.take_off.new.fs _ more is c.in_err-take_off.ensures

pub returns : goal.returns
returns g c =
    let more : c.args.left ≡ (c.args.left - 1) + 1 = omega arith in
    some_tries c.args.trial.now c.args.good.now c.args.left (c.args.left - 1) c.args.fs.now (Ok c.in_ok-take_off.field-0) c.take_off.new.fs _ more refl c.in_ok-take_off.ensures
