use Rattle.std.proofs.Common.{◌∙◌, ◌-◌, ℕ, Ok, length, refl, sym, ap, arith}
use Rattle.std.proofs.lemmas.Result.{err_from_is_err_and}
use Rattle.fs_types.specs.declared.call.Call.{Call}
use Rattle.history_machine.specs.History.{forgotten}
use Rattle.inquiries.specs.Readings.{shown}
use Rattle.inquiries.proofs.Readings.{logged_versions}
use Rattle.copies.proofs.Doing.{call_done, last_done, last_move_stops, move_stops, on_ok, still_rests, synced}
use Rattle.copies.proofs.Keeping.{ended}
use Rattle.copies.proofs.ending.end_copy.Goals as goal

pub returns-in_err-log-clause-err : goal.returns-in_err-log-clause-err
returns-in_err-log-clause-err g c =
    let p = err_from_is_err_and c.from_residual.result c.from_residual.ensures.1 in
    rw (p.1, p.2) (move_stops _ _ _ _ tt c.in_err-log.ensures)

pub returns-in_err-forget-clause-err : goal.returns-in_err-forget-clause-err
returns-in_err-forget-clause-err g c =
    let p = err_from_is_err_and c.from_residual-in_err-forget.result c.from_residual-in_err-forget.ensures.1 in
    rw (p.1, p.2) (move_stops _ _ _ _ tt c.in_err-forget.ensures.step)

pub returns-clause-err : goal.returns-clause-err
returns-clause-err g c = last_move_stops _ _ c.sync.result _ tt c.sync.ensures.step

pub returns-clause-ok : goal.returns-clause-ok
returns-clause-ok g c = λ limit before trees checkpoints holds count few.
    let serials = c.as_slice-serials.result.now in
    let are = c.as_slice-serials.ensures ∙ logged_versions _ c.args.to.now.system (Ok c.in_ok-log.log) c.in_ok-log.ensures.step in
    let others = c.saturating_sub-others.ensures ∙ ap (λ (k : ℕ). length serials - k) (sym count) in
    on_ok c.sync.result _ _
    (λ done. ended limit before trees checkpoints (shown c.args.to.now) (shown c.forget.new.self) (shown c.go_to_place.new.to) (shown c.sync.new.self) serials c.saturating_sub-others.result c.args.cursor
    c.args.to.now.mounted.mounted.machine c.forget.new.self.mounted.mounted.machine c.requires.rests holds (omega (arith, c.requires.within, count)) (omega (arith, few, count)) are others
    (call_done _ _ _ _ c.in_ok-forget.ensures.step) c.in_ok-go_to_place.ensures.ok done)
    (last_done _ _ c.sync.result _ c.sync.ensures.step)

pub returns-clause-synced : goal.returns-clause-synced
returns-clause-synced g c =
    let left = still_rests (shown c.args.to.now) (shown c.forget.new.self) (Call.Forget c.saturating_sub-others.result) (λ k. forgotten k c.saturating_sub-others.result) (λ k. refl) c.requires.rests (call_done _ _ _ _ c.in_ok-forget.ensures.step) in
    synced c.go_to_place.new.to c.sync.result c.sync.new.self (c.in_ok-go_to_place.ensures.rests left) c.sync.ensures.step
