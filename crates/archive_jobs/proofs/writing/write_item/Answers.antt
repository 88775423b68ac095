use Rattle.std.proofs.Common.{refl, subst}
use Rattle.std.specs.Io.KnownBytes.{Appends}
use Rattle.history_machine.specs.Machine.{view_tree}
use Rattle.inquiries.specs.Readings.{shown}
use Rattle.inquiries.proofs.Entries.{view-file_tree}
use Rattle.archives.specs.Archives.{entry_text}
use Rattle.archives.specs.declared.archive_entry.ArchiveEntry.{ArchiveEntry}
use Rattle.archive_jobs.proofs.EntryLemmas.{entry_short}
use Rattle.archive_jobs.proofs.writing.write_item.Goals as goal

pub write_entry-requires : goal.write_entry-requires
write_entry-requires g c =
    let m = shown c.args.fs.now in
    entry_short (view_tree m c.args.view.now) c.args.item.now c.in-Ok.entry (view-file_tree m c.args.view.now c.args.fs.now.mounted.mounted.machine) c.in-Ok.ensures.ok

pub returns-in-Err-clause-err : goal.returns-in-Err-clause-err
returns-in-Err-clause-err g c = (c.in-Err.ensures.err, refl)

pub returns-in-Ok-write_entry-clause-ok : goal.returns-in-Ok-write_entry-clause-ok
returns-in-Ok-write_entry-clause-ok g c =
    subst (λ (entry : ArchiveEntry). Appends (g.W.Write.contents c.args.out.now) (g.W.Write.contents c.write_entry.new.out) (entry_text entry)) c.in-Ok.ensures.ok c.in-Ok-write_entry.ensures.ok
