use Rattle.std.proofs.Common.{◌∙◌, ℕ, List, false, inr, ap}
use Rattle.fs_types.specs.declared.call.View.{View}
use Rattle.history_machine.specs.Machine.{Machine, view_tree}
use Rattle.history_machine.proofs.Versions.{checkpoints-changed}
use Rattle.inquiries.specs.Readings.{shown}
use Rattle.copies.proofs.Brought.{ready_after, ready_changed}
use Rattle.copies.proofs.Doing.{call_done, move_stops}
use Rattle.copies.proofs.Causing.{on_both, on_uncopied}
use Rattle.copies.proofs.Keeping.{rolled, rolled_small, version_held}
use Rattle.copies.proofs.Sharing.{holds_of, not_both}
use Rattle.system.specs.TreeSizes.{ShowRoots}
use Rattle.copies.proofs.copying.copy_version.Goals as goal

pub returns-in-Ok-clause-ok : goal.returns-in-Ok-clause-ok
returns-in-Ok-clause-ok g c = λ limit trees holds.
    let done = call_done _ _ _ _ c.in-Ok.ensures.step in
    version_held limit trees (shown c.args.from.now).history.checkpoints (shown c.args.to.now) (shown c.rollback.new.self) (view_tree (shown c.args.from.now) (View.Serial c.args.serial)) c.args.to.now.mounted.mounted.machine
    (rolled (shown c.args.from.now) (shown c.args.to.now) (shown c.rollback.new.self) c.args.serial c.in-Ok-Some.name.now c.requires.ready.ready (rw c.in-Ok-Some.field-0-is at c.in-Ok-Some.ensures.ok) c.requires.kept done) holds

pub returns-in-Ok-clause-ready : goal.returns-in-Ok-clause-ready
returns-in-Ok-clause-ready g c =
    let done = call_done _ _ _ _ c.in-Ok.ensures.step in
    let made = rolled (shown c.args.from.now) (shown c.args.to.now) (shown c.rollback.new.self) c.args.serial c.in-Ok-Some.name.now c.requires.ready.ready (rw c.in-Ok-Some.field-0-is at c.in-Ok-Some.ensures.ok) c.requires.kept done in
    ready_after (shown c.args.from.now) (shown c.args.to.now) (shown c.rollback.new.self) c.args.serial c.args.to.now.mounted.mounted.machine c.requires.there
    (ready_changed (shown c.args.to.now) (shown c.rollback.new.self) (view_tree (shown c.args.from.now) (View.Serial c.args.serial)) c.args.to.now.mounted.mounted.machine c.requires.ready.ready
    (rolled_small (shown c.args.from.now) (shown c.args.to.now) (shown c.rollback.new.self) c.args.serial c.in-Ok-Some.name.now c.requires.ready.ready (rw c.in-Ok-Some.field-0-is at c.in-Ok-Some.ensures.ok) c.requires.kept done) made) made

pub returns-in-Ok-None-clause-ready : goal.returns-in-Ok-None-clause-ready
returns-in-Ok-None-clause-ready g c =
    on_both c.bring.result _ _ _
    (λ made ready. ready_after (shown c.args.from.now) (shown c.args.to.now) (shown c.bring.new.to) c.args.serial c.args.to.now.mounted.mounted.machine c.requires.there ready made) c.bring.ensures.ok c.bring.ensures.ready

pub returns-in-Ok-clause-kept : goal.returns-in-Ok-clause-kept
returns-in-Ok-clause-kept g c =
    let done = call_done _ _ _ _ c.in-Ok.ensures.step in
    ap (λ (m : Machine). m.history.checkpoints) (rolled (shown c.args.from.now) (shown c.args.to.now) (shown c.rollback.new.self) c.args.serial c.in-Ok-Some.name.now c.requires.ready.ready (rw c.in-Ok-Some.field-0-is at c.in-Ok-Some.ensures.ok) c.requires.kept done)
    ∙ checkpoints-changed (shown c.args.to.now).history (view_tree (shown c.args.from.now) (View.Serial c.args.serial)) ∙ c.requires.kept

pub returns-in-Err-rollback-clause-err : goal.returns-in-Err-rollback-clause-err
returns-in-Err-rollback-clause-err g c = inr (move_stops _ _ _ _ tt c.in-Err-rollback.ensures.step)

pub returns-in-Ok-None-clause-ok : goal.returns-in-Ok-None-clause-ok
returns-in-Ok-None-clause-ok g c = λ limit trees holds.
    on_uncopied c.bring.result _ _
    (λ made. version_held limit trees (shown c.args.from.now).history.checkpoints (shown c.args.to.now) (shown c.bring.new.to) (view_tree (shown c.args.from.now) (View.Serial c.args.serial)) c.args.to.now.mounted.mounted.machine made holds)
    c.bring.ensures.ok

pub returns-in-Ok-None-clause-kept : goal.returns-in-Ok-None-clause-kept
returns-in-Ok-None-clause-kept g c =
    on_uncopied c.bring.result _ _
    (λ made. ap (λ (m : Machine). m.history.checkpoints) made ∙ checkpoints-changed (shown c.args.to.now).history (view_tree (shown c.args.from.now) (View.Serial c.args.serial)) ∙ c.requires.kept)
    c.bring.ensures.ok

pub returns-in-Ok-clause-shared : goal.returns-in-Ok-clause-shared
returns-in-Ok-clause-shared g c = λ name among same. c.rollback.ensures.still

pub returns-in-Ok-None-clause-shared : goal.returns-in-Ok-None-clause-shared
returns-in-Ok-None-clause-shared g c = λ name among same.
    let s = c.args.from.now.system.state in
    let none = rw c.in-Ok-None.field-0-is at c.in-Ok-None.ensures.none in
    absurd (not_both s (View.Checkpoint name) (View.Serial c.args.serial) same
    (holds_of (λ (n : List ℕ). ShowRoots s (View.Checkpoint n) (View.Serial c.args.serial) false) c.args.names.now name none among))
