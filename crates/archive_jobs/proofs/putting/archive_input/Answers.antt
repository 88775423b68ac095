use Rattle.std.proofs.Common.{sym, subst}
use Rattle.archive_jobs.specs.Untars.{IsUnreadArchive}
use Rattle.archive_jobs.proofs.UntarLemmas.{unread_archive}
use Rattle.archive_jobs.proofs.putting.archive_input.Goals as goal

pub returns-in-Err-clause-err : goal.returns-in-Err-clause-err
returns-in-Err-clause-err g c =
    subst (IsUnreadArchive (g.R.Read.remaining c.args.reader.now) (g.R.Read.remaining c.read_input.new.reader)) (sym c.of_input.ensures)
    (unread_archive (g.R.Read.remaining c.args.reader.now) (g.R.Read.remaining c.read_input.new.reader) c.in-Err.failure c.in-Err.ensures.err)
