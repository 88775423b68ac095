use Rattle.std.specs.Prelude.{IfSome}
use Rattle.flash_simulation.specs.Simulation.{device_of}
use Rattle.system.specs.Systems.{IsSystem}
use Rattle.put_jobs.proofs.refused.tell_lot.Given as goal

abbrev pub invariant-loop-file : goal.invariant-loop-file
invariant-loop-file g l = IfSome l.put.system (IsSystem (device_of l.put.flash))
