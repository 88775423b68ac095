use Rattle.std.proofs.Common.{◌++◌}
use Rattle.put_jobs.specs.Puts.{group_start}
use Rattle.put_jobs.specs.Served.{place}
use Rattle.put_jobs.proofs.GivesLemmas.{unbegun, put_after}
use Rattle.put_jobs.proofs.putting.Put.fill.Goals as goal

pub returns-in-Ok-clause-ends : goal.returns-in-Ok-clause-ends
returns-in-Ok-clause-ends g c =
    put_after (group_start ++ c.args.removed.now) (g.T.Things.gives c.args.files.now c.args.things.now) (place c.args.self.now) (place c.begin.new.self) (place c.each.new.self) c.each.result c.in-Ok.ensures.asks c.each.ensures.ends

pub returns-after-not-tell_unremoved-clause-ends : goal.returns-after-not-tell_unremoved-clause-ends
returns-after-not-tell_unremoved-clause-ends g c =
    unbegun (group_start ++ c.args.removed.now) (g.T.Things.gives c.args.files.now c.args.things.now) (place c.args.self.now) (place c.begin.new.self) (place c.begin.new.self) c.in-Err.refusal c.of_refusal.result
    (g.met.T.Things.none_given c.args.files.now c.args.things.now) c.in-Err.ensures.asks c.of_refusal.ensures
