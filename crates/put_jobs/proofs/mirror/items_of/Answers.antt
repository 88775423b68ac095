use Rattle.std.proofs.Common.{inl, inr}
use Rattle.put_jobs.proofs.mirror.items_of.Goals as goal

pub returns-in-Err-clause-err : goal.returns-in-Err-clause-err
returns-in-Err-clause-err c = inl c.in-Err.ensures.err

pub returns-in-Ok-list_as_planned-clause-ok : goal.returns-in-Ok-list_as_planned-clause-ok
returns-in-Ok-list_as_planned-clause-ok c = (c.in-Ok.flash, c.in-Ok.ensures.ok, c.in-Ok-list_as_planned.ensures.ok)

pub returns-clause-err : goal.returns-clause-err
returns-clause-err c = inr (c.in-Ok.flash, c.list_as_planned.new.flash, c.in-Err-list_as_planned.fault, c.in-Ok.ensures.ok, c.in-Err-list_as_planned.ensures.err, c.list_as_planned.ensures.plan, c.of_ask.ensures)
