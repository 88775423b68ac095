use Rattle.put_jobs.specs.Served.{place}
use Rattle.std.proofs.lemmas.Result.{err_from_is_err_and}
use Rattle.put_jobs.proofs.GivesLemmas.{none_put, next_put, next_halted}
use Rattle.put_jobs.proofs.putting.Put.each.Goals as goal

pub loop-events-init : goal.loop-events-init
loop-events-init g c = (c.requires, none_put (g.T.Things.gives c.args.files.now c.args.things.now) (place c.args.self.now))

pub loop-events-preserved : goal.loop-events-preserved
loop-events-preserved g c = (
  c.ask.ensures.mounted,
  next_put (g.T.Things.gives c.args.files.now c.args.things.now) (g.T.Things.gives c.args.files.now c.loop-events.things) (g.T.Things.gives c.args.files.now c.next.new.self)
      (place c.args.self.now) (place c.loop-events.self) (place c.ask.new.self) c.in-Some.events.items c.deref.result.now
      c.loop-events.invariant.1 (rw c.in-Some.is at c.in_ok-events.ensures.ok) c.deref.ensures.value c.in_ok-ask.ensures.asks,
)

pub returns-in_err-ask-clause-ends : goal.returns-in_err-ask-clause-ends
returns-in_err-ask-clause-ends g c =
    let halts = next_halted (g.T.Things.gives c.args.files.now c.args.things.now) (g.T.Things.gives c.args.files.now c.loop-events.things) (g.T.Things.gives c.args.files.now c.next.new.self)
    (place c.args.self.now) (place c.loop-events.self) (place c.ask.new.self) c.in-Some.events.items c.deref.result.now c.in_err-ask.field-0.0
    c.loop-events.invariant.1 (rw c.in-Some.is at c.in_ok-events.ensures.ok) c.deref.ensures.value c.in_err-ask.ensures.asks in
    let p = err_from_is_err_and c.from_residual-in_err-ask.result c.from_residual-in_err-ask.ensures.1 in
    rw (p.1, p.2) halts
