use Rattle.std.proofs.lemmas.Result.{IfOk-weaker, IfErr-weaker}
use Rattle.host_interface.specs.Files.{readings_of}
use Rattle.put_jobs.proofs.GivesLemmas.{batch_put, batch_unput}
use Rattle.put_jobs.proofs.put.put_on_flash.Goals as goal

pub returns-clause-ok : goal.returns-clause-ok
returns-clause-ok g c =
    let readings = readings_of (g.F.ImageFiles.held c.args.files.now) (g.F.ImageFiles.reads_source c.args.files.now) in
    let sources = c.of-sources.result in
    IfOk-weaker c.run.result _ _
    (λ end puts. batch_put c.args.removed.now readings c.args.batch.now sources.batch.now sources.left.now sources.last c.args.flash end c.of-sources.ensures.batch c.of-sources.ensures.left c.of-sources.ensures.last puts) c.run.ensures.ok

pub returns-clause-err : goal.returns-clause-err
returns-clause-err g c =
    let readings = readings_of (g.F.ImageFiles.held c.args.files.now) (g.F.ImageFiles.reads_source c.args.files.now) in
    let sources = c.of-sources.result in
    IfErr-weaker c.run.result _ _
    (λ failure cause. batch_unput c.args.removed.now readings c.args.batch.now sources.batch.now sources.left.now sources.last c.args.flash failure c.of-sources.ensures.batch c.of-sources.ensures.left c.of-sources.ensures.last cause) c.run.ensures.err
