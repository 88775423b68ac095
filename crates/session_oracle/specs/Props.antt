-- There is at most one proof that a system is mounted on a flash, if one is, so that a caller may keep it beside them.
use Rattle.std.specs.Prelude.{Option, Some, None, IfSome}
use Rattle.std.proofs.Props.{props}
use Rattle.flash_model.specs.Device.{Device}
use Rattle.system.specs.Systems.{IsSystem}
use Rattle.system.specs.Props.{system-prop}
use Rattle.system.specs.declared.systems.System.{System}

pub seat-prop : (device : Device) (m : Option System) → IsProp (IfSome m (IsSystem device))
seat-prop device None = hlevel props
seat-prop device (Some system) = hlevel (props, system-prop device system)
