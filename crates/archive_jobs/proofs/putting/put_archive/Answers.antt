use Rattle.std.proofs.Common.{inl, inr, refl, sym, vec_len}
use Rattle.host_interface.specs.Files.{ReadsClaimed}
use Rattle.archive_jobs.proofs.UntarLemmas.{archive_put}
use Rattle.archive_jobs.proofs.putting.put_archive.Goals as goal

pub returns-in-Err-clause-ends : goal.returns-in-Err-clause-ends
returns-in-Err-clause-ends g c = λ out. inr (c.in-Err.failure, refl, inl (c.in-Err.ensures.err, refl), refl)

pub returns-in-Err-archive_input-clause-ends : goal.returns-in-Err-archive_input-clause-ends
returns-in-Err-archive_input-clause-ends g c = λ out. inr (c.in-Err-archive_input.failure, refl, inr (c.in-Ok.base, c.in-Ok.ensures.ok, inl c.in-Err-archive_input.ensures.err), refl)

pub returns-in-Ok-lots_of_archive-clause-ends : goal.returns-in-Ok-lots_of_archive-clause-ends
returns-in-Ok-lots_of_archive-clause-ends g c = λ out.
    inl (archive_put c.args.skip_links c.args.name.now c.args.word.now (ReadsClaimed g.F.ImageFiles.claims g.F.ImageFiles.reads c.args.name.now) c.in-Ok.base c.in-Ok-archive_input.bytes.items c.in-Ok-lots_of_archive.lots.items
    (g.R.Read.remaining c.args.reader.now) (g.R.Read.remaining c.archive_input.new.reader) (g.F.ImageFiles.held c.args.files.now) (g.F.ImageFiles.held c.put_lots.new.files) c.put_lots.result (vec_len c.in-Ok-archive_input.bytes)
    c.in-Ok.ensures.ok c.in-Ok-archive_input.ensures.ok (sym c.in-Ok-archive_input.bytes.ok.0) c.in-Ok-archive_input.ensures.short c.in-Ok-lots_of_archive.ensures.ok c.put_lots.ensures.ends)

pub returns-clause-ends : goal.returns-clause-ends
returns-clause-ends g c = λ out.
    inr (
      c.in-Err-lots_of_archive.failure,
      refl,
      inr (c.in-Ok.base, c.in-Ok.ensures.ok, inr (c.in-Ok-archive_input.bytes.items, c.in-Ok-archive_input.ensures.ok, c.in-Err-lots_of_archive.ensures.err)),
      refl,
    )
