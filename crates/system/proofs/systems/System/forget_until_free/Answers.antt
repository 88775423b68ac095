use Rattle.std.proofs.lemmas.Result.{err_from_is_err_and}
use Rattle.std.proofs.Common.{Ok, Err}
use Rattle.system.proofs.Forgetting.{forgets_until, found_fault, found_none, found_some, found_refused}
use Rattle.system.proofs.systems.System.forget_until_free.Goals as goal

pub returns-in_err-count-clause-step : goal.returns-in_err-count-clause-step
returns-in_err-count-clause-step g c =
    let p = err_from_is_err_and c.from_residual-in_err-count.result c.from_residual-in_err-count.ensures.1 in
    let d = g.F.Flash.device c.args.flash.now in
    let e = g.F.Flash.device c.find_count.new.flash in
    let m = c.args.self.now in
    let n = c.find_count.new.self in
    let fault = c.in_err-count.field-0.0 in
    let is = c.in_err-count.ensures in
    rw (p.1, p.2)
    (forgets_until d m c.args.blocks e n (Err fault) c.in_ok-check_power.ensures.ok c.in_ok-check_outside.ensures.ok (found_fault d m c.args.blocks e n fault is.looks is.system is.finds is.asks is.as_df))

pub returns-then-count-eq0-clause-step : goal.returns-then-count-eq0-clause-step
returns-then-count-eq0-clause-step g c =
    let d = g.F.Flash.device c.args.flash.now in
    let e = g.F.Flash.device c.find_count.new.flash in
    let m = c.args.self.now in
    let n = c.find_count.new.self in
    let is = c.in_ok-count.ensures in
    forgets_until d m c.args.blocks e n (Ok 0) c.in_ok-check_power.ensures.ok c.in_ok-check_outside.ensures.ok (found_none d m c.args.blocks e n c.in_ok-count.count c.if-count-eq0.true is.looks is.system is.finds is.asks is.as_df)

pub returns-in_err-call-clause-step : goal.returns-in_err-call-clause-step
returns-in_err-call-clause-step g c =
    let p = err_from_is_err_and c.from_residual-in_err-call.result c.from_residual-in_err-call.ensures.1 in
    let d = g.F.Flash.device c.args.flash.now in
    let e = g.F.Flash.device c.find_count.new.flash in
    let f = g.F.Flash.device c.call.new.flash in
    let m = c.args.self.now in
    let n = c.find_count.new.self in
    let fault = c.in_err-call.field-0.0 in
    let is = c.in_ok-count.ensures in
    rw (p.1, p.2)
    (forgets_until d m c.args.blocks f c.call.new.self (Err fault) c.in_ok-check_power.ensures.ok c.in_ok-check_outside.ensures.ok
    (found_refused d m c.args.blocks e n f c.call.new.self c.in_ok-count.count fault (λ none. c.if-count-eq0.false none) is.looks is.system is.finds is.asks is.as_df c.in_err-call.ensures.step))

pub returns-clause-step : goal.returns-clause-step
returns-clause-step g c =
    let d = g.F.Flash.device c.args.flash.now in
    let e = g.F.Flash.device c.find_count.new.flash in
    let f = g.F.Flash.device c.call.new.flash in
    let m = c.args.self.now in
    let n = c.find_count.new.self in
    let is = c.in_ok-count.ensures in
    forgets_until d m c.args.blocks f c.call.new.self (Ok c.in_ok-count.count) c.in_ok-check_power.ensures.ok c.in_ok-check_outside.ensures.ok
    (found_some d m c.args.blocks e n f c.call.new.self c.in_ok-count.count c.in_ok-call.field-0 (λ none. c.if-count-eq0.false none) is.looks is.system is.finds is.asks is.as_df c.in_ok-call.ensures.step)
