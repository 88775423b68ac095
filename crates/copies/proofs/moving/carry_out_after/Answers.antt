use Rattle.std.proofs.Common.{◌≤◌, List, [], length, sym, subst, arith}
use Rattle.std.proofs.lemmas.Result.{IfErr-weaker}
use Rattle.fs_types.specs.declared.call.Call.{Call}
use Rattle.inquiries.specs.Readings.{shown}
use Rattle.copies.specs.Calls.{Does, Stops}
use Rattle.copies.proofs.Doing.{on_ok}
use Rattle.copies.proofs.Renaming.{after_some}
use Rattle.copies.proofs.moving.carry_out_after.Goals as goal

pub returns-in_default-clause-ok : goal.returns-in_default-clause-ok
returns-in_default-clause-ok g c =
    let at_least = c.in_default.len_at_least in
    let some : 1 ≤ length c.args.moves.now = omega arith in
    on_ok c.carry_out.result _ _ (λ did. ([], subst (λ (calls : List Call). Does (shown c.args.to.now) calls (shown c.carry_out.new.to)) (sym (after_some c.args.moves.now c.args.changes.now [] some)) did)) c.carry_out.ensures.ok

pub returns-in_default-clause-err : goal.returns-in_default-clause-err
returns-in_default-clause-err g c =
    let at_least = c.in_default.len_at_least in
    let some : 1 ≤ length c.args.moves.now = omega arith in
    IfErr-weaker c.carry_out.result _ _ (λ fault stops. ([], subst (λ (calls : List Call). Stops (shown c.args.to.now) calls (g.G.Flash.device c.carry_out.new.to.flash.now) fault) (sym (after_some c.args.moves.now c.args.changes.now [] some)) stops)) c.carry_out.ensures.err
