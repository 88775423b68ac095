use Rattle.std.proofs.Common.{◌∙◌}
use Rattle.std.proofs.lemmas.Result.{err_from_is_err_and}
use Rattle.inquiries.specs.Readings.{shown}
use Rattle.copies.proofs.Doing.{call_done, call_stops, does_more}
use Rattle.copies.proofs.Stopping.{stops_next}
use Rattle.copies.proofs.bringing.carry_out.Goals as goal

pub returns-in_err-_reply-clause-err : goal.returns-in_err-_reply-clause-err
returns-in_err-_reply-clause-err g c =
    let p = err_from_is_err_and c.from_residual.result c.from_residual.ensures.1 in
    rw (p.1, p.2)
    (stops_next (shown c.args.to.now) (shown c.loop-call.to) c.args.calls.now c.loop-call.call-index c.call-item.result _ _ c.loop-call-test.true c.call-item.is c.loop-call.invariant.0
    (call_stops _ _ _ _ c.in_err-_reply.ensures.step))

pub loop-call-preserved : goal.loop-call-preserved
loop-call-preserved g c =
    (does_more (shown c.args.to.now) (shown c.loop-call.to) _ c.args.calls.now c.loop-call.call-index c.call-item.result c.loop-call-test.true c.call-item.is c.loop-call.invariant.0 (call_done _ _ _ _ c.in_ok-_reply.ensures.step), c.in_ok-_reply.ensures.step.same_flash ∙ c.loop-call.invariant.1)
