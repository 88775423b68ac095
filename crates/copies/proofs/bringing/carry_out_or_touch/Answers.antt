use Rattle.std.proofs.Common.{◌≤◌, length, arith}
use Rattle.std.proofs.lemmas.Result.{IfErr-weaker}
use Rattle.inquiries.specs.Readings.{shown}
use Rattle.copies.proofs.Stopping.{stops_or}
use Rattle.copies.proofs.bringing.carry_out_or_touch.Goals as goal

pub returns-in_default-clause-err : goal.returns-in_default-clause-err
returns-in_default-clause-err g c =
    let at_least = c.in_default.len_at_least in
    let some : 1 ≤ length c.args.changes.now = omega arith in
    IfErr-weaker c.carry_out.result _ _ (λ fault stops. stops_or (shown c.args.to.now) c.args.changes.now _ fault some stops) c.carry_out.ensures.err
