use Rattle.std.specs.Prelude.{IfSome}
use Rattle.flash_simulation.specs.Simulation.{device_of}
use Rattle.system.specs.Systems.{IsSystem}
use Rattle.put_jobs.proofs.refused.tell_unremoved.Given as goal

abbrev pub invariant-loop-event : goal.invariant-loop-event
invariant-loop-event g l = IfSome l.put.system (IsSystem (device_of l.put.flash))
