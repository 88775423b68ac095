use Rattle.std.proofs.Common.{option_map, vec_items}
use Rattle.std.proofs.lemmas.Result.{IfOk-weaker}
use Rattle.put_jobs.proofs.GivesLemmas.{ready_given, none_ready}
use Rattle.put_jobs.proofs.source_things.ready_events.Goals as goal

pub returns-in-Some-clause-ok : goal.returns-in-Some-clause-ok
returns-in-Some-clause-ok c = IfOk-weaker c.next_events.result _ _ (λ next is. ready_given c.args.ready c.in-Some.thing (option_map vec_items next) c.in-Some.is is) c.next_events.ensures.ok

pub returns-in-None-clause-ok : goal.returns-in-None-clause-ok
returns-in-None-clause-ok c = none_ready c.args.ready c.new.result.items c.in-None.is c.new.ensures.items
