use Rattle.std.proofs.Common.{inl, inr}
use Rattle.put_jobs.specs.Served.{place}
use Rattle.put_jobs.proofs.putting.Put.group.Goals as goal

pub returns-in-Err : goal.returns-in-Err
returns-in-Err g c = inl c.in-Err.ensures.ends

pub returns-in-Ok-end : goal.returns-in-Ok-end
returns-in-Ok-end g c = (place c.fill.new.self, c.in-Ok.ensures.ends, c.in-Ok-end.ensures)

pub returns-in-Err-end : goal.returns-in-Err-end
returns-in-Err-end g c = inr (place c.fill.new.self, c.in-Err-end.refusal, c.in-Ok.ensures.ends, c.in-Err-end.ensures, c.of_refusal.ensures)
