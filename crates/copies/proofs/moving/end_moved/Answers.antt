use Rattle.std.proofs.Common.{List, [], ◌∷◌, ◌++◌, subst, append_assoc}
use Rattle.std.proofs.lemmas.Result.{err_from_is_err_and, IfErr-weaker}
use Rattle.fs_types.specs.declared.call.Call.{Call}
use Rattle.inquiries.specs.Readings.{shown}
use Rattle.copies.specs.Calls.{Stops}
use Rattle.copies.specs.Moved.{after_moves}
use Rattle.copies.proofs.Doing.{call_done, call_stops, does_both, does_none, last_done, last_stops, on_ok}
use Rattle.copies.proofs.Stopping.{stops_among}
use Rattle.copies.proofs.moving.end_moved.Goals as goal

pub returns-in_err-carry_out_after-clause-err : goal.returns-in_err-carry_out_after-clause-err
returns-in_err-carry_out_after-clause-err g c =
    let p = err_from_is_err_and c.from_residual.result c.from_residual.ensures.1 in
    let m = shown c.args.to.now in
    let stopped = c.in_err-carry_out_after.ensures.err in
    rw (p.1, p.2) (stopped.0, stops_among m m [] (after_moves c.args.moves.now c.args.changes.now stopped.0) (Call.End ∷ Call.Sync ∷ []) _ _ (does_none m) stopped.1)

pub returns-in_err-end-clause-err : goal.returns-in_err-end-clause-err
returns-in_err-end-clause-err g c =
    let p = err_from_is_err_and c.from_residual-in_err-end.result c.from_residual-in_err-end.ensures.1 in
    let m = shown c.args.to.now in
    let made = c.in_ok-carry_out_after.ensures.ok in
    rw (p.1, p.2) (made.0, stops_among m (shown c.carry_out_after.new.to) (after_moves c.args.moves.now c.args.changes.now made.0) (Call.End ∷ []) (Call.Sync ∷ []) _ _ made.1 (call_stops _ _ _ _ c.in_err-end.ensures.step))

pub returns-clause-ok : goal.returns-clause-ok
returns-clause-ok g c =
    let m = shown c.args.to.now in
    let made = c.in_ok-carry_out_after.ensures.ok in
    let ended = call_done _ _ _ _ c.in_ok-end.ensures.step in
    on_ok c.sync.result _ _ (λ synced. (made.0, does_both m (shown c.carry_out_after.new.to) _ (after_moves c.args.moves.now c.args.changes.now made.0) (Call.End ∷ Call.Sync ∷ []) made.1 (does_both _ _ _ (Call.End ∷ []) (Call.Sync ∷ []) ended synced)))
    (last_done _ _ c.sync.result _ c.sync.ensures.step)

pub returns-clause-err : goal.returns-clause-err
returns-clause-err g c =
    let m = shown c.args.to.now in
    let made = c.in_ok-carry_out_after.ensures.ok in
    let calls = after_moves c.args.moves.now c.args.changes.now made.0 in
    let ended = call_done _ _ _ _ c.in_ok-end.ensures.step in
    IfErr-weaker c.sync.result _ _
    (λ fault stops. (
      made.0,
      subst (λ (l : List Call). Stops m l (g.G.Flash.device c.sync.new.self.flash.now) fault) (append_assoc calls (Call.End ∷ []) (Call.Sync ∷ []))
          (stops_among m _ (calls ++ Call.End ∷ []) (Call.Sync ∷ []) [] (g.G.Flash.device c.sync.new.self.flash.now) fault (does_both m (shown c.carry_out_after.new.to) _ calls (Call.End ∷ []) made.1 ended) stops),
    ))
    (last_stops _ _ c.sync.result _ c.sync.ensures.step)
