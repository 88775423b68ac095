use Rattle.std.proofs.Common.{List, map, subst}
use Rattle.host_interface.specs.Sources.{source_found}
use Rattle.put_jobs.specs.Places.{AreOthers}
use Rattle.host_interface.specs.declared.source.Source.{Source}
use Rattle.put_jobs.proofs.BatchLemmas.{batch_refused, batch_misplaced}
use Rattle.put_jobs.proofs.put.gather.Goals as goal

pub returns-in-Err-batch_of-clause-err : goal.returns-in-Err-batch_of-clause-err
returns-in-Err-batch_of-clause-err g c =
    let order = c.args.order in
    batch_refused order.mirror order.skip_links c.args.image.now (g.F.Sources.gathered c.args.files.now order.file.now c.args.image.now) c.args.base (map source_found c.in-Ok.found.items) c.in-Err-batch_of.failure c.in-Ok.ensures
    c.in-Err-batch_of.ensures.err

pub returns-in-Err-check_places-clause-err : goal.returns-in-Err-check_places-clause-err
returns-in-Err-check_places-clause-err g c =
    let order = c.args.order in
    batch_misplaced order.mirror order.skip_links c.args.image.now (g.F.Sources.gathered c.args.files.now order.file.now c.args.image.now) c.args.base (map source_found c.in-Ok.found.items) c.in-Ok-batch_of.batch c.deref.result.now
    c.in-Err-check_places.failure c.in-Ok.ensures c.in-Ok-batch_of.ensures.ok c.deref.ensures.value c.in-Err-check_places.ensures.err

pub returns-in-Ok-check_places-clause-ok : goal.returns-in-Ok-check_places-clause-ok
returns-in-Ok-check_places-clause-ok g c = (map source_found c.in-Ok.found.items, c.in-Ok.ensures, c.in-Ok-batch_of.ensures.ok)

pub returns-in-Ok-check_places-clause-others : goal.returns-in-Ok-check_places-clause-others
returns-in-Ok-check_places-clause-others g c =
    subst (λ (sources : List Source). AreOthers c.args.image.now (map source_found sources)) c.deref.ensures.value c.in-Ok-check_places.ensures.others
