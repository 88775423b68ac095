use Rattle.std.proofs.Common.{◌∙◌, sym, refl}
use Rattle.flash_simulation.specs.Simulation.{device_of}
use Rattle.put_jobs.specs.Served.{place}
use Rattle.put_jobs.proofs.PutLemmas.{asks_next, asks_all, asks_halted}
use Rattle.put_jobs.proofs.putting.Put.ask_all.Goals as goal

pub loop-event-init : goal.loop-event-init
loop-event-init c = (c.requires, refl)

pub loop-event-preserved : goal.loop-event-preserved
loop-event-preserved c = (
  c.serve-answer.ensures.mounted,
  asks_next c.args.events.now c.loop-event.event-index c.event-item.result (place c.args.self.now) (place c.loop-event.self)
      (record { device = device_of c.serve-answer.new.flash; system = c.serve-answer.new.system }) c.serve-answer.result
      c.loop-event-test.true c.event-item.is c.loop-event.invariant.1 c.serve-answer.ensures.serves (sym c.stop_of.ensures ∙ c.in_default.is),
)

pub returns-in-Some-clause-asks : goal.returns-in-Some-clause-asks
returns-in-Some-clause-asks c =
    asks_halted c.args.events.now c.loop-event.event-index c.event-item.result (place c.args.self.now) (place c.loop-event.self)
    (record { device = device_of c.serve-answer.new.flash; system = c.serve-answer.new.system }) c.serve-answer.result c.in-Some.refusal
    c.loop-event-test.true c.event-item.is c.loop-event.invariant.1 c.serve-answer.ensures.serves (sym c.stop_of.ensures ∙ c.in-Some.is)

pub returns-clause-asks : goal.returns-clause-asks
returns-clause-asks c = asks_all c.args.events.now c.loop-event.event-index (place c.args.self.now) (place c.loop-event.self) c.loop-event-test.false c.loop-event.invariant.1
