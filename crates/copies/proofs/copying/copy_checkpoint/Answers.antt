use Rattle.std.proofs.Common.{◌≡◌, List, ℕ, inl, inr, refl, subst}
use Rattle.fs_types.specs.declared.call.Call.{Call}
use Rattle.fs_types.specs.declared.call.View.{View}
use Rattle.history_machine.specs.History.{changed}
use Rattle.history_machine.specs.Machine.{mounted, view_tree}
use Rattle.inquiries.specs.Readings.{shown}
use Rattle.copies.proofs.Brought.{small_of}
use Rattle.copies.proofs.Doing.{call_done, move_stops}
use Rattle.copies.proofs.Keeping.{checkpoint_held, checkpoint_ready}
use Rattle.copies.proofs.copying.copy_checkpoint.Goals as goal

pub returns-in-Ok-checkpoint-clause-ok : goal.returns-in-Ok-checkpoint-clause-ok
returns-in-Ok-checkpoint-clause-ok g c =
    let new = view_tree (shown c.args.from.now) (View.Checkpoint c.args.name.now) in
    let made = subst (λ (n : List ℕ). shown c.bring.new.to ≡ mounted (changed (shown c.args.to.now).history (view_tree (shown c.args.from.now) (View.Checkpoint n)))) c.in-Ok.ensures c.in_ok-bring.ensures.ok in
    λ limit trees checkpoints holds. checkpoint_held (shown c.args.to.now) (shown c.bring.new.to) (shown c.checkpoint.new.self) new c.args.name.now c.args.to.now.mounted.mounted.machine made (call_done _ _ _ _ c.in-Ok-checkpoint.ensures.step) limit trees checkpoints holds

pub returns-in-Ok-checkpoint-clause-ready : goal.returns-in-Ok-checkpoint-clause-ready
returns-in-Ok-checkpoint-clause-ready g c =
    let new = view_tree (shown c.args.from.now) (View.Checkpoint c.args.name.now) in
    let made = subst (λ (n : List ℕ). shown c.bring.new.to ≡ mounted (changed (shown c.args.to.now).history (view_tree (shown c.args.from.now) (View.Checkpoint n)))) c.in-Ok.ensures c.in_ok-bring.ensures.ok in
    checkpoint_ready (shown c.args.to.now) (shown c.bring.new.to) (shown c.checkpoint.new.self) new c.args.name.now c.args.to.now.mounted.mounted.machine made (call_done _ _ _ _ c.in-Ok-checkpoint.ensures.step) c.requires.ready
    (small_of (shown c.args.to.now) (shown c.bring.new.to) new c.args.to.now.mounted.mounted.machine made c.in_ok-bring.ensures.ready)

pub returns-in-Err-checkpoint-clause-err : goal.returns-in-Err-checkpoint-clause-err
returns-in-Err-checkpoint-clause-err g c = inr (move_stops _ _ _ _ tt c.in-Err-checkpoint.ensures.step)

-- there is no memory for the name
pub returns-in-Err-clause-err : goal.returns-in-Err-clause-err
returns-in-Err-clause-err g c = inr (shown c.args.to.now, Call.Checkpoint c.args.name.now, tt, inl refl)

pub bring-requires-clause-ready : goal.bring-requires-clause-ready
bring-requires-clause-ready g c = record { ready = c.requires.ready; has = tt }
