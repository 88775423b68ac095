use Rattle.std.proofs.Common.{rules}
use Rattle.std.proofs.lemmas.Result.{IfErr-weaker}
use Rattle.archive_jobs.proofs.ArchiveLemmas.{not_written, written_of}
use Rattle.archive_jobs.proofs.archiving.write_archive.Goals as goal

pub returns-in-Ok-clause-ok : goal.returns-in-Ok-clause-ok
returns-in-Ok-clause-ok g c =
    written_of c.write_view-written.result (g.F.Flash.device c.args.flash.now) (g.F.Flash.device c.in-Ok.fs.flash.now) c.args.view.now c.in-Ok.fs.system
    (g.W.Write.contents c.args.out.now) (g.W.Write.contents c.write_view-written.new.out) c.in-Ok.ensures.mounted c.write_view-written.ensures.ok

pub returns-in-Ok-clause-err : goal.returns-in-Ok-clause-err
returns-in-Ok-clause-err g c =
    IfErr-weaker c.write_view-written.result _ _ (λ why fails. not_written (g.F.Flash.device c.args.flash.now) (g.F.Flash.device c.in-Ok.fs.flash.now) (g.F.Flash.device c.write_view-written.new.fs.flash.now) _
    c.args.view.now c.in-Ok.fs.system (g.W.Write.contents c.args.out.now) (g.W.Write.contents c.write_view-written.new.out) why (search rules) c.in-Ok.ensures.mounted c.in-Ok.ensures.only_reads fails) c.write_view-written.ensures.err
