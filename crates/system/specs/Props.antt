-- There is at most one proof that a flash and a system are mounted, so that a caller may keep it beside them.
use Rattle.std.specs.Prelude.{Option, Some, None, IfSome}
use Rattle.std.proofs.Props.{props}
use Rattle.flash_model.specs.Device.{Device}
use Rattle.reclaim.specs.Passes.{Pass}
use Rattle.working_state.specs.Props.{whole-prop, mounted-prop, bodies-prop}
use Rattle.system.specs.Systems.{IsSystem, IsRunning}
use Rattle.system.specs.declared.systems.System.{System}

running-prop : (device : Device) (m : System) (pass : Option Pass) → IsProp (IfSome pass (IsRunning device m))
running-prop device m None = hlevel props
running-prop device m (Some pass) = hlevel props

pub system-prop : (device : Device) (m : System) → IsProp (IsSystem device m)
system-prop device m = hlevel (props, whole-prop, mounted-prop device m.state, bodies-prop device m.state m.bodies, running-prop device m m.pass)
