use Rattle.std.proofs.Common.{◌∙◌, sym, subst}
use Rattle.std.proofs.lemmas.Result.{err_from_is_err_and}
use Rattle.host_interface.specs.Files.{ReadsClaimed}
use Rattle.image_jobs.proofs.ImageLemmas.{front_same, run_saved, run_broken, run_untaken, synced_since}
use Rattle.image_jobs.proofs.images.run_image.Goals as goal

pub save_changed-requires-clause-read : goal.save_changed-requires-clause-read
save_changed-requires-clause-read g c = subst (g.F.ImageFiles.reads c.take_image.new.files c.args.name.now) (sym c.deref-in-Ok.ensures.value) c.in_ok-bytes.ensures.now

pub returns-in_err-bytes-clause-ends : goal.returns-in_err-bytes-clause-ends
returns-in_err-bytes-clause-ends g c =
    let p = err_from_is_err_and c.from_residual.result c.from_residual.ensures.1 in
    rw (p.1, p.2) (run_untaken c.args.stop c.args.name.now (ReadsClaimed g.F.ImageFiles.claims g.F.ImageFiles.reads c.args.name.now) (g.F.ImageFiles.held c.args.files.now) (g.F.ImageFiles.held c.take_image.new.files)
    (g.R.Read.remaining c.args.reader.now) c.in_err-bytes.field-0.0 (g.W.Write.contents c.args.out.now) c.in_err-bytes.ensures.same c.in_err-bytes.ensures.why)

pub returns-in-Ok-clause-ends : goal.returns-in-Ok-clause-ends
returns-in-Ok-clause-ends g c =
    let claimed = g.F.ImageFiles.held c.take_image.new.files in
    let front = front_same (claimed c.args.name.now) c.in_ok-bytes.bytes.items c.deref.result.now c.deref.ensures.value c.in_ok-bytes.ensures.ok in
    run_saved c.args.stop c.args.name.now (ReadsClaimed g.F.ImageFiles.claims g.F.ImageFiles.reads c.args.name.now) (g.F.ImageFiles.held c.args.files.now) claimed (g.F.ImageFiles.held c.save_changed.new.files) c.deref.result.now c.deref-in-Ok.result.now
    (g.R.Read.remaining c.args.reader.now) (g.R.Read.remaining c.play.new.reader) c.in-Ok.flash c.save_changed.result
    (g.W.Write.contents c.args.out.now) (g.W.Write.contents c.play.new.out)
    c.in_ok-bytes.ensures.same (c.take_image.new.files, c.in_ok-bytes.ensures.claimed, subst (g.F.ImageFiles.reads c.take_image.new.files c.args.name.now) (sym c.deref.ensures.value) c.in_ok-bytes.ensures.now) front
    c.in-Ok.ensures (c.deref-in-Ok.ensures.value ∙ sym c.deref.ensures.value) c.save_changed.ensures.ok c.save_changed.ensures.err

pub returns-clause-ends : goal.returns-clause-ends
returns-clause-ends g c =
    let claimed = g.F.ImageFiles.held c.take_image.new.files in
    let front = front_same (claimed c.args.name.now) c.in_ok-bytes.bytes.items c.deref.result.now c.deref.ensures.value c.in_ok-bytes.ensures.ok in
    run_broken c.args.stop c.args.name.now (ReadsClaimed g.F.ImageFiles.claims g.F.ImageFiles.reads c.args.name.now) (g.F.ImageFiles.held c.args.files.now) claimed c.deref.result.now
    (g.R.Read.remaining c.args.reader.now) (g.R.Read.remaining c.play.new.reader) c.in-Err.failure
    (g.W.Write.contents c.args.out.now) (g.W.Write.contents c.play.new.out)
    c.in_ok-bytes.ensures.same front c.in-Err.ensures

pub returns-in-Ok-clause-synced : goal.returns-in-Ok-clause-synced
returns-in-Ok-clause-synced g c =
    synced_since (g.F.ImageFiles.held c.args.files.now) (g.F.ImageFiles.held c.take_image.new.files) (g.F.ImageFiles.held c.save_changed.new.files) (g.F.ImageFiles.synced c.save_changed.new.files c.args.name.now) c.save_changed.result
    c.in_ok-bytes.ensures.same c.save_changed.ensures.synced
