use Rattle.std.proofs.lemmas.Result.{err_from_is_err_and, IfErr-weaker}
use Rattle.inquiries.specs.Readings.{shown}
use Rattle.copies.proofs.Brought.{grouped}
use Rattle.copies.proofs.Doing.{call_done, call_stops, last_done, last_stops, on_ok}
use Rattle.copies.proofs.Stopping.{unbegun, unended, unmade, unsynced}
use Rattle.copies.proofs.bringing.make_version.Goals as goal

pub returns-in_err-begin-clause-err : goal.returns-in_err-begin-clause-err
returns-in_err-begin-clause-err g c =
    let p = err_from_is_err_and c.from_residual.result c.from_residual.ensures.1 in
    rw (p.1, p.2) (unbegun (shown c.args.to.now) c.args.changes.now _ _ (call_stops _ _ _ _ c.in_err-begin.ensures.step))

pub returns-in_err-end-clause-err : goal.returns-in_err-end-clause-err
returns-in_err-end-clause-err g c =
    let p = err_from_is_err_and c.from_residual-in_err-end.result c.from_residual-in_err-end.ensures.1 in
    let made = c.in_ok-carry_out_or_touch.ensures.ok in
    rw (p.1, p.2) (unended (shown c.args.to.now) c.args.changes.now _ _ _ _ made.0 (call_done _ _ _ _ c.in_ok-begin.ensures.step) made.1 (call_stops _ _ _ _ c.in_err-end.ensures.step))

pub returns-in_err-carry_out_or_touch-clause-err : goal.returns-in_err-carry_out_or_touch-clause-err
returns-in_err-carry_out_or_touch-clause-err g c =
    let p = err_from_is_err_and c.from_residual-in_err-carry_out_or_touch.result c.from_residual-in_err-carry_out_or_touch.ensures.1 in
    rw (p.1, p.2) (unmade (shown c.args.to.now) c.args.changes.now _ _ _ (call_done _ _ _ _ c.in_ok-begin.ensures.step) c.in_err-carry_out_or_touch.ensures.err)

pub returns-clause-ok : goal.returns-clause-ok
returns-clause-ok g c =
    let made = c.in_ok-carry_out_or_touch.ensures.ok in
    on_ok c.sync.result _ _ (λ synced. (made.0, grouped (shown c.args.to.now) _ _ _ _ c.args.changes.now made.0 (call_done _ _ _ _ c.in_ok-begin.ensures.step) made.1 (call_done _ _ _ _ c.in_ok-end.ensures.step) synced))
    (last_done _ _ c.sync.result _ c.sync.ensures.step)

pub returns-clause-err : goal.returns-clause-err
returns-clause-err g c =
    let made = c.in_ok-carry_out_or_touch.ensures.ok in
    IfErr-weaker c.sync.result _ _
    (λ fault stops. unsynced (shown c.args.to.now) c.args.changes.now _ fault _ _ _ made.0 (call_done _ _ _ _ c.in_ok-begin.ensures.step) made.1 (call_done _ _ _ _ c.in_ok-end.ensures.step) stops)
    (last_stops _ _ c.sync.result _ c.sync.ensures.step)
