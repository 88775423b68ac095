use Rattle.std.proofs.Common.{◌∙◌, sym, subst}
use Rattle.std.proofs.lemmas.Result.{IfOk-weaker, IfErr-weaker}
use Rattle.image_jobs.proofs.ImageLemmas.{fault_read, unread_fault}
use Rattle.image_jobs.proofs.images.load.Goals as goal

pub returns-in-Ok-clause-now : goal.returns-in-Ok-clause-now
returns-in-Ok-clause-now g c =
    let reads = g.F.ImageFiles.reads c.args.files.now c.args.name.now in
    IfOk-weaker c.flash_of.result _ _ (λ flash decoded. subst reads (sym c.deref.ensures.value ∙ decoded.spelled) c.in-Ok.ensures.now) c.flash_of.ensures.ok

pub returns-in-Ok-clause-faulty : goal.returns-in-Ok-clause-faulty
returns-in-Ok-clause-faulty g c =
    IfErr-weaker c.flash_of.result _ _
    (λ failure cause. fault_read (g.F.ImageFiles.reads c.args.files.now c.args.name.now) c.in-Ok.bytes.items c.deref.result.now c.deref.ensures.value c.in-Ok.ensures.now failure cause) c.flash_of.ensures.err

pub returns-in-Err-clause-faulty : goal.returns-in-Err-clause-faulty
returns-in-Err-clause-faulty g c =
    unread_fault (g.F.ImageFiles.reads c.args.files.now c.args.name.now) (g.F.ImageFiles.held c.args.files.now c.args.name.now) c.in-Err.failure c.in-Err.ensures.err
