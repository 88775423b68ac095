use Rattle.std.proofs.Common.{◌<◌, ◌∙◌, List, Option, ap, length, sym, subst}
use Rattle.std.proofs.lemmas.Result.{IfOk-weaker}
use Rattle.fs_types.specs.declared.event.Event.{Event}
use Rattle.put_jobs.specs.Gives.{GivesNext, GivesKnown}
use Rattle.put_jobs.specs.Inputs.{writes_left}
use Rattle.put_jobs.proofs.GivesLemmas.{input_given, fewer_writes, if_some}
use Rattle.put_jobs.proofs.put_of_input.InputFileThings.next.Goals as goal

pub returns-in-Ok-clause-ok : goal.returns-in-Ok-clause-ok
returns-in-Ok-clause-ok g c =
    let path = c.args.self.now.path in
    let was = c.args.self.now.bytes in
    let now = c.take.new.self in
    IfOk-weaker c.next_events.result _ _
    (λ next is. subst (λ (x : Option (List Event)). GivesNext (GivesKnown (writes_left path was)) (GivesKnown (writes_left path now)) x) (sym is)
    (input_given path c.in-Ok.path was now c.in-Some.bytes (sym c.take.ensures.value ∙ c.in-Some.is) c.take.ensures.after c.in-Ok.ensures)) c.next_events.ensures.ok

pub returns-in-Ok-clause-fewer : goal.returns-in-Ok-clause-fewer
returns-in-Ok-clause-fewer g c =
    let path = c.args.self.now.path in
    let was = c.args.self.now.bytes in
    let now = c.take.new.self in
    IfOk-weaker c.next_events.result _ _
    (λ next is. if_some (length (writes_left path now) < length (writes_left path was)) (fewer_writes path was now c.in-Some.bytes (sym c.take.ensures.value ∙ c.in-Some.is) c.take.ensures.after) next) c.next_events.ensures.ok

pub returns-in_default-clause-ok : goal.returns-in_default-clause-ok
returns-in_default-clause-ok g c = sym (ap (writes_left c.args.self.now.path) (sym c.take.ensures.value ∙ c.in_default.is))
