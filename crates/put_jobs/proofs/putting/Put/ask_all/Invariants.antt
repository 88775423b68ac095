use Rattle.std.proofs.Common.{take}
use Rattle.std.specs.Prelude.{IfSome}
use Rattle.flash_simulation.specs.Simulation.{device_of}
use Rattle.system.specs.Systems.{IsSystem}
use Rattle.put_jobs.specs.Served.{place, ServesAll}
use Rattle.put_jobs.proofs.putting.Put.ask_all.Given as goal

abbrev pub invariant-loop-event : goal.invariant-loop-event
invariant-loop-event l = IfSome l.self.system (IsSystem (device_of l.self.flash)) × ServesAll (place l.initial.self) (take l.event-index l.events) (place l.self)
