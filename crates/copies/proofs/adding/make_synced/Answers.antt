use Rattle.std.proofs.Common.{inl, inr, refl}
use Rattle.std.proofs.lemmas.Result.{err_from_is_err_and, IfErr-weaker}
use Rattle.fs_types.specs.declared.call.Call.{Call}
use Rattle.history_machine.specs.History.{changed}
use Rattle.inquiries.specs.Readings.{shown}
use Rattle.copies.proofs.Extending.{at_rest}
use Rattle.copies.proofs.Brought.{brought}
use Rattle.copies.proofs.Doing.{last_done, last_move_stops, moved, on_ok, synced}
use Rattle.copies.proofs.adding.make_synced.Goals as goal

pub returns-in_err-make_version-clause-err : goal.returns-in_err-make_version-clause-err
returns-in_err-make_version-clause-err g c =
    let p = err_from_is_err_and c.from_residual.result c.from_residual.ensures.1 in
    rw (p.1, p.2) (inl c.in_err-make_version.ensures.err)

pub returns-clause-ok : goal.returns-clause-ok
returns-clause-ok g c = λ t brings.
    let to = shown c.args.to.now in
    let done = c.in_ok-make_version.ensures.ok in
    let made = brought to to (shown c.make_version.new.to) t c.args.changes.now done.0 c.args.to.now.mounted.mounted.machine c.requires.rests refl brings done.1 in
    on_ok c.sync.result _ _ (λ again. moved (shown c.make_version.new.to) (shown c.sync.new.self) (changed to.history t) Call.Sync made again) (last_done _ _ c.sync.result _ c.sync.ensures.step)

pub returns-clause-synced : goal.returns-clause-synced
returns-clause-synced g c =
    let to = shown c.args.to.now in
    let t = c.requires.brings.0 in
    let done = c.in_ok-make_version.ensures.ok in
    let made = brought to to (shown c.make_version.new.to) t c.args.changes.now done.0 c.args.to.now.mounted.mounted.machine c.requires.rests refl c.requires.brings.1 done.1 in
    synced c.make_version.new.to c.sync.result c.sync.new.self (at_rest (shown c.make_version.new.to) (changed to.history t) made) c.sync.ensures.step

pub returns-clause-err : goal.returns-clause-err
returns-clause-err g c = IfErr-weaker c.sync.result _ _ (λ fault stops. inr stops) (last_move_stops _ _ c.sync.result _ tt c.sync.ensures.step)
