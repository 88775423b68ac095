use Rattle.copy_jobs.proofs.RestLemmas.{source_with}
use Rattle.copy_jobs.proofs.source.save_with.Goals as goal

pub returns-in-Ok-clause-ok : goal.returns-in-Ok-clause-ok
returns-in-Ok-clause-ok g c =
    source_with c.args.sizes c.args.rest c.in-Some.rest c.args.found c.in-Ok.one c.source_in-in-Ok.result c.in-Some.is c.in-Ok.ensures.ok c.source_in-in-Ok.ensures
