use Rattle.std.proofs.Common.{List, ℕ, Some, Ok, Err, sym, subst}
use Rattle.script_runs.specs.Scripts.{streams_at, EndsOnSimFlash}
use Rattle.image_buffer.specs.Buffers.{PlayRefusal}
use Rattle.image_buffer.proofs.Refusing.{broken_off}
use Rattle.image_buffer.proofs.buffers.play.Goals as goal

pub returns-in-Ok-clause-ok : goal.returns-in-Ok-clause-ok
returns-in-Ok-clause-ok c =
    let ends = subst (λ (old : List ℕ). EndsOnSimFlash c.in_ok-flash.flash c.run_script.new.flash (streams_at (Some c.args.script.now) (Some old)) (Ok tt) (streams_at (Some c.run_script.new.reader.now) (Some c.run_script.new.writer.items)))
    c.new-replies.ensures.items c.in-Ok.ensures.ends in
    (c.run_script.new.flash, (c.in_ok-flash.flash, Some c.run_script.new.reader.now, c.in_ok-flash.ensures.ok, ends), c.in_ok-spell_flash-in-Ok.ensures.ok)

pub returns-clause-err : goal.returns-clause-err
returns-clause-err c =
    let ends = subst (λ (old : List ℕ). EndsOnSimFlash c.in_ok-flash.flash c.run_script.new.flash (streams_at (Some c.args.script.now) (Some old)) (Err c.in-Err.fault) (streams_at (Some c.run_script.new.reader.now) (Some c.run_script.new.writer.items)))
    c.new-replies.ensures.items c.in-Err.ensures.ends in
    subst (PlayRefusal c.args.bytes.now c.args.script.now) (sym c.of_script.ensures)
    (broken_off c.args.bytes.now c.args.script.now c.run_script.new.writer.items c.run_script.new.flash c.in-Err.fault (c.in_ok-flash.flash, Some c.run_script.new.reader.now, c.in_ok-flash.ensures.ok, ends))
