use Rattle.std.proofs.Common.{inl, inr}
use Rattle.std.proofs.lemmas.Result.{IfOk-weaker, IfErr-weaker}
use Rattle.put_jobs.proofs.GivesLemmas.{put_in, not_put_in}
use Rattle.put_jobs.proofs.putting.put_on_image.Goals as goal

pub returns-in-Err-clause-err : goal.returns-in-Err-clause-err
returns-in-Err-clause-err g c = inl c.in-Err.ensures.err

pub returns-in-Ok-flash_of-clause-ok : goal.returns-in-Ok-flash_of-clause-ok
returns-in-Ok-flash_of-clause-ok g c =
    IfOk-weaker c.run.result _ _
    (λ end puts. put_in (g.T.Things.removes c.args.things.now) (g.T.Things.gives c.args.files.now c.args.things.now) c.args.image.now c.in-Ok-flash_of.flash c.in-Ok.removed.items c.deref.result.now end
    c.in-Ok-flash_of.ensures.ok c.in-Ok.ensures.ok c.deref.ensures.value puts) c.run.ensures.ok

pub returns-in-Ok-flash_of-clause-err : goal.returns-in-Ok-flash_of-clause-err
returns-in-Ok-flash_of-clause-err g c =
    IfErr-weaker c.run.result _ _
    (λ failure cause. not_put_in (g.T.Things.removes c.args.things.now) (g.T.Things.unlisted c.args.things.now) (g.T.Things.gives c.args.files.now c.args.things.now) c.args.image.now c.in-Ok-flash_of.flash c.in-Ok.removed.items
    c.deref.result.now failure c.in-Ok-flash_of.ensures.ok c.in-Ok.ensures.ok c.deref.ensures.value cause) c.run.ensures.err

pub returns-clause-err : goal.returns-clause-err
returns-clause-err g c = inr (c.in-Ok.removed.items, c.in-Ok.ensures.ok, inl c.in-Err-flash_of.ensures.err)
