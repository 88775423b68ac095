use Rattle.std.proofs.Common.{false, Some, Ok, Err, inl, refl}
use Rattle.std.proofs.lemmas.Result.{err_from_is_err_and}
use Rattle.image_jobs.proofs.ImageLemmas.{front_same, cause_unread, plays_front}
use Rattle.image_jobs.proofs.images.look_at_image.Goals as goal

pub returns-in_err-bytes : goal.returns-in_err-bytes
returns-in_err-bytes g c =
    let p = err_from_is_err_and c.from_residual.result c.from_residual.ensures.1 in
    rw (p.1, p.2) ((Some c.args.script.now, inl (cause_unread (g.F.ImageFiles.held c.args.files.now c.args.name.now) c.in_err-bytes.field-0.0 c.in_err-bytes.ensures.err, refl, refl)))

pub returns-in-Ok : goal.returns-in-Ok
returns-in-Ok g c =
    let held = g.F.ImageFiles.held c.args.files.now c.args.name.now in
    let front = front_same held c.in_ok-bytes.bytes.items c.deref.result.now c.deref.ensures.value c.in_ok-bytes.ensures.ok in (
      Some c.play.new.reader.now,
      c.in-Ok.field-0,
      plays_front false held c.deref.result.now front (Some c.args.script.now) (Some c.play.new.reader.now) (Ok c.in-Ok.field-0) (g.W.Write.contents c.args.out.now) (g.W.Write.contents c.play.new.out)
          c.in-Ok.ensures,
    )

pub returns : goal.returns
returns g c =
    let held = g.F.ImageFiles.held c.args.files.now c.args.name.now in
    let front = front_same held c.in_ok-bytes.bytes.items c.deref.result.now c.deref.ensures.value c.in_ok-bytes.ensures.ok in (
      Some c.play.new.reader.now,
      plays_front false held c.deref.result.now front (Some c.args.script.now) (Some c.play.new.reader.now) (Err c.in-Err.failure) (g.W.Write.contents c.args.out.now) (g.W.Write.contents c.play.new.out)
          c.in-Err.ensures,
    )
