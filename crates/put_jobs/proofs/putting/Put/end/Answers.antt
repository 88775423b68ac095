use Rattle.put_jobs.specs.Served.{place}
use Rattle.put_jobs.proofs.PutLemmas.{ended_trimmed}
use Rattle.put_jobs.proofs.putting.Put.end.Goals as goal

pub returns : goal.returns
returns c =
    ended_trimmed (place c.args.self.now) (place c.close.new.self) (place c.trim_made.new.put) c.is_due-is_made.result c.is_due-is_made.ensures c.in-Ok.ensures.closes c.trim_made.ensures
