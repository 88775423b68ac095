use Rattle.std.proofs.Common.{inl, inr, refl, subst}
use Rattle.host_interface.specs.Files.{ReadsClaimed, ReadsBeside}
use Rattle.put_jobs.proofs.BatchLemmas.{asked_ends}
use Rattle.put_jobs.proofs.GivesLemmas.{batch_ends}
use Rattle.put_jobs.proofs.PutLemmas.{unspelled, unplaced}
use Rattle.put_jobs.specs.Mirrors.{wants_folder}
use Rattle.put_jobs.proofs.put.put_into_image.Goals as goal

pub returns-in-Err-clause-ends : goal.returns-in-Err-clause-ends
returns-in-Err-clause-ends g c =
    let order = c.args.order in
    inr (
      c.in-Err.failure,
      refl,
      unspelled (wants_folder order.mirror order.skip_links) order.skip_links c.args.name.now (g.F.Sources.gathered c.args.files.now order.file.now c.args.name.now) order.path.now c.in-Err.failure c.in-Err.ensures.err,
      refl,
    )

pub returns-in-Err-gather-clause-ends : goal.returns-in-Err-gather-clause-ends
returns-in-Err-gather-clause-ends g c =
    let order = c.args.order in
    inr (
      c.in-Err-gather.failure,
      refl,
      unplaced (wants_folder order.mirror order.skip_links) order.skip_links c.args.name.now (g.F.Sources.gathered c.args.files.now order.file.now c.args.name.now) order.path.now c.in-Ok.base c.in-Err-gather.failure c.in-Ok.ensures.ok
          c.in-Err-gather.ensures.err,
      refl,
    )

pub returns-clause-ends : goal.returns-clause-ends
returns-clause-ends g c =
    let order = c.args.order in
    let sources = c.of-sources.result in
    let ends = batch_ends g.F.ImageFiles.claims g.F.ImageFiles.held g.F.ImageFiles.reads g.F.ImageFiles.reads_source c.args.name.now c.in-Ok-gather.batch sources.batch.now sources.left.now sources.last
    (g.F.ImageFiles.held c.args.files.now) (g.F.ImageFiles.held c.put_into.new.files) c.put_into.result c.of-sources.ensures.batch c.of-sources.ensures.left c.of-sources.ensures.last c.put_into.ensures.ends in
    asked_ends order.mirror order.skip_links c.args.name.now order.path.now (ReadsClaimed g.F.ImageFiles.claims g.F.ImageFiles.reads c.args.name.now) (ReadsBeside g.F.ImageFiles.claims g.F.ImageFiles.reads_source c.args.name.now) (g.F.Sources.gathered c.args.files.now order.file.now c.args.name.now) c.in-Ok.base
    c.in-Ok-gather.batch (g.F.ImageFiles.held c.args.files.now) (g.F.ImageFiles.held c.put_into.new.files) c.put_into.result c.in-Ok.ensures.ok c.in-Ok-gather.ensures.ok c.in-Ok-gather.ensures.others ends
