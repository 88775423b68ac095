use Rattle.std.specs.Prelude.{IfSome}
use Rattle.flash_simulation.specs.Simulation.{device_of}
use Rattle.system.specs.Systems.{IsSystem}
use Rattle.rows.proofs.counted_nodes.run_lines.Given as goal

-- a system that is mounted stands on the flash
abbrev pub invariant-loop-step : goal.invariant-loop-step
invariant-loop-step l = IfSome l.system (IsSystem (device_of l.flash))
