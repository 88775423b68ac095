use Rattle.std.proofs.Common.{◌≡◌, ℕ, true, Some, Ok, Err, List, inl, inr, refl, subst}
use Rattle.flash_simulation.specs.declared.sim_flash.SimFlash.{SimFlash}
use Rattle.script_runs.specs.Scripts.{streams_at}
use Rattle.image_jobs.specs.Images.{Plays}
use Rattle.image_jobs.specs.declared.failure.Failure.{Failure}
use Rattle.image_words.proofs.script_replies.tell_replies.Goals as goal

pub returns-in-Err : goal.returns-in-Err
returns-in-Err g c =
    let held = g.F.ImageFiles.held c.args.files.now c.args.name.now in
    let plays = subst (λ (l : List ℕ). Plays true held (streams_at (Some c.args.script.now) (Some l)) (Err c.in-Err.failure) (streams_at (Some c.play.new.reader.now) (Some c.play.new.out.items))) c.new-replies.ensures.items c.in-Err.ensures in
    inl (c.in-Err.failure, c.play.new.out.items, (Some c.play.new.reader.now, plays), c.unprinted.ensures, refl)

pub returns-in-Ok-write_out : goal.returns-in-Ok-write_out
returns-in-Ok-write_out g c =
    let held = g.F.ImageFiles.held c.args.files.now c.args.name.now in
    let plays = subst (λ (l : List ℕ). Plays true held (streams_at (Some c.args.script.now) (Some l)) (Ok c.in-Ok.field-0) (streams_at (Some c.play.new.reader.now) (Some c.play.new.out.items))) c.new-replies.ensures.items c.in-Ok.ensures in
    (c.in-Ok.field-0, c.play.new.out.items, (Some c.play.new.reader.now, plays), rw c.as_slice.ensures.value at c.in-Ok-write_out.ensures.ok)

pub returns : goal.returns
returns g c =
    let held = g.F.ImageFiles.held c.args.files.now c.args.name.now in
    let plays = subst (λ (l : List ℕ). Plays true held (streams_at (Some c.args.script.now) (Some l)) (Ok c.in-Ok.field-0) (streams_at (Some c.play.new.reader.now) (Some c.play.new.out.items))) c.new-replies.ensures.items c.in-Ok.ensures in
    let cut = rw c.as_slice.ensures.value at c.in-Err-write_out.ensures.err in
    inr (c.in-Ok.field-0, c.play.new.out.items, cut.0, (Some c.play.new.reader.now, plays), refl, cut.1)
