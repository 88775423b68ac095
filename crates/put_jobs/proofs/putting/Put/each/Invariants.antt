use Rattle.std.specs.Prelude.{IfSome}
use Rattle.flash_simulation.specs.Simulation.{device_of}
use Rattle.system.specs.Systems.{IsSystem}
use Rattle.put_jobs.specs.Served.{place}
use Rattle.put_jobs.proofs.GivesLemmas.{HasPut}
use Rattle.put_jobs.proofs.putting.Put.each.Given as goal

abbrev pub invariant-loop-events : goal.invariant-loop-events
invariant-loop-events g l =
    IfSome l.self.system (IsSystem (device_of l.self.flash))
    × HasPut (g.T.Things.gives l.files l.initial.things) (g.T.Things.gives l.files l.things) (place l.initial.self) (place l.self)

abbrev pub decreases-loop-events : goal.decreases-loop-events
decreases-loop-events g l = g.T.Things.calls l.things
