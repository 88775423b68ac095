use Rattle.std.proofs.Common.{◌∙◌, inr, sym, ap, subst}
use Rattle.std.proofs.lemmas.Result.{IfOk-weaker, IfErr-weaker}
use Rattle.archives.specs.Wholes.{entries_read}
use Rattle.archive_jobs.specs.Untars.{IsUnputArchive}
use Rattle.archive_jobs.proofs.UntarLemmas.{unput_fault}
use Rattle.archive_jobs.proofs.putting.lots_of_archive.Goals as goal

pub returns-in-Err-clause-err : goal.returns-in-Err-clause-err
returns-in-Err-clause-err g c =
    subst (IsUnputArchive c.args.skip_links c.args.base.now c.args.bytes.items) (sym c.of_fault.ensures)
    (unput_fault c.args.skip_links c.args.base.now c.args.bytes.items c.in-Err.unread.fault (λ other. ap (entries_read c.args.skip_links) (sym c.deref.ensures.value) ∙ c.in-Err.ensures.err other))

pub returns-clause-ok : goal.returns-clause-ok
returns-clause-ok g c =
    let read = ap (entries_read c.args.skip_links) (sym c.deref.ensures.value) ∙ c.in-Ok.ensures.ok in
    IfOk-weaker c.lots_of_entries.result _ _ (λ lots are. (c.in-Ok.archive.entries.items, read, are)) c.lots_of_entries.ensures.ok

pub returns-clause-err : goal.returns-clause-err
returns-clause-err g c =
    let read = ap (entries_read c.args.skip_links) (sym c.deref.ensures.value) ∙ c.in-Ok.ensures.ok in
    IfErr-weaker c.lots_of_entries.result _ _ (λ failure why. inr (inr (c.in-Ok.archive.entries.items, read, why))) c.lots_of_entries.ensures.err
