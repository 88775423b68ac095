use Rattle.std.proofs.Common.{inl, inr, refl}
use Rattle.put_jobs.specs.Served.{place}
use Rattle.put_jobs.proofs.GivesLemmas.{put_done, put_undone}
use Rattle.put_jobs.proofs.putting.run.Goals as goal

pub returns-in-Err-clause-err : goal.returns-in-Err-clause-err
returns-in-Err-clause-err g c =
    inr (inl (
      c.args.flash,
      c.mount_as_planned.new.flash,
      c.in-Err.fault,
      refl,
      (record { cause = c.in-Err.ensures.why; reads = c.mount_as_planned.ensures.only_reads }, c.mount_as_planned.ensures.plan),
      c.of_system.ensures,
    ))

pub returns-in-Ok-group-clause-ok : goal.returns-in-Ok-group-clause-ok
returns-in-Ok-group-clause-ok g c =
    put_done c.args.removed.now (g.T.Things.gives c.args.files.now c.args.things.now) c.args.flash c.mount_as_planned.new.flash c.in-Ok.system c.group.new.self
    c.mount_as_planned.ensures.only_reads c.in-Ok.ensures.ok c.in-Ok.ensures.system c.in-Ok-group.ensures

pub returns-in-Err-group-clause-err : goal.returns-in-Err-group-clause-err
returns-in-Err-group-clause-err g c =
    put_undone c.args.removed.now (g.T.Things.gives c.args.files.now c.args.things.now) c.args.flash c.mount_as_planned.new.flash c.in-Ok.system (place c.group.new.self) c.in-Err-group.failure
    c.mount_as_planned.ensures.only_reads c.in-Ok.ensures.ok c.in-Ok.ensures.system c.in-Err-group.ensures
