use Rattle.put_jobs.specs.Served.{place}
use Rattle.put_jobs.proofs.PutLemmas.{served_in, served_without}
use Rattle.put_jobs.proofs.putting.Put.begin.Goals as goal

pub returns-in-Ok-clause-asks : goal.returns-in-Ok-clause-asks
returns-in-Ok-clause-asks c =
    served_in (place c.args.self.now) (place c.ask_all.new.self) (place c.ask_all-in-Ok.new.self) c.args.events.now c.ask_all-in-Ok.result c.in-Ok.ensures.asks c.ask_all-in-Ok.ensures.asks

pub returns-clause-asks : goal.returns-clause-asks
returns-clause-asks c = served_without (place c.args.self.now) (place c.ask_all.new.self) c.args.events.now c.in-Err.refusal c.in-Err.ensures.asks
