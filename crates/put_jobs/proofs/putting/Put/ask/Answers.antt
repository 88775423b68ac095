use Rattle.put_jobs.specs.Served.{place}
use Rattle.put_jobs.proofs.GivesLemmas.{halted}
use Rattle.put_jobs.proofs.putting.Put.ask.Goals as goal

pub returns-in-Err-clause-asks : goal.returns-in-Err-clause-asks
returns-in-Err-clause-asks g c = halted (place c.args.self.now) (place c.ask_all.new.self) c.args.events.now c.in-Err.refusal c.of_refusal.result c.in-Err.ensures.asks c.of_refusal.ensures
