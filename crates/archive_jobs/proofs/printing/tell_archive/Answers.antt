use Rattle.std.proofs.Common.{inl, inr, refl}
use Rattle.flash_simulation.specs.Simulation.{device_of}
use Rattle.archive_jobs.proofs.TarLemmas.{tar_written, tar_ended}
use Rattle.archive_jobs.proofs.printing.tell_archive.Goals as goal

pub returns-in-Err : goal.returns-in-Err
returns-in-Err g c = inl (inl c.in-Err.ensures.err, refl)

pub returns-in-Err-load : goal.returns-in-Err-load
returns-in-Err-load g c = inl (inr (inl c.in-Err-load.ensures.err), refl)

pub returns-in-Ok-write_archive : goal.returns-in-Ok-write_archive
returns-in-Ok-write_archive g c =
    tar_written c.args.view (g.F.ImageFiles.held c.args.files.now c.args.name.now) c.in-Ok.view c.in-Ok-load.flash c.in-Ok.ensures.ok c.in-Ok-load.ensures.ok
    (g.W.Write.contents c.args.out.now) (g.W.Write.contents c.write_archive.new.out) c.in-Ok-write_archive.ensures.ok

pub returns : goal.returns
returns g c =
    tar_ended c.args.view (g.F.ImageFiles.held c.args.files.now c.args.name.now) c.in-Ok.view c.in-Ok-load.flash c.in-Ok.ensures.ok c.in-Ok-load.ensures.ok
    (g.W.Write.contents c.args.out.now) (g.W.Write.contents c.write_archive.new.out) (device_of c.write_archive.new.flash) c.in-Err-write_archive.why c.of_unwritten.result
    c.in-Err-write_archive.ensures.err c.of_unwritten.ensures
