use Rattle.std.proofs.Common.{◌≡◌, ◌∙◌, true, inr, refl, sym, ap, subst, List}
use Rattle.std.specs.Prelude.{All, option_copied}
use Rattle.archives.specs.declared.archive_entry.ArchiveEntry.{ArchiveEntry}
use Rattle.archives.specs.Things.{fits}
use Rattle.archive_jobs.specs.Untars.{too_deep}
use Rattle.archive_jobs.proofs.UntarLemmas.{all_fit}
use Rattle.archive_jobs.proofs.putting.lots_of_entries.Goals as goal

pub returns-in-Some-clause-err : goal.returns-in-Some-clause-err
returns-in-Some-clause-err g c =
    inr (refl, (c.in-Some.entry.now, ap (too_deep c.args.base.now) (sym c.deref.ensures.value) ∙ sym c.too_deep.ensures ∙ ap option_copied c.in-Some.is))

pub placed_lots-requires : goal.placed_lots-requires
placed_lots-requires g c =
    subst (λ (entries : List ArchiveEntry). All (λ entry. fits c.args.base.now entry ≡ true) entries) c.deref.ensures.value
    (all_fit (fits c.args.base.now) c.deref.result.now (sym c.too_deep.ensures ∙ ap option_copied c.in_default.is))

pub returns-in-Ok-clause-ok : goal.returns-in-Ok-clause-ok
returns-in-Ok-clause-ok g c =
    (ap (too_deep c.args.base.now) (sym c.deref.ensures.value) ∙ sym c.too_deep.ensures ∙ ap option_copied c.in_default.is, c.in-Ok.ensures)
