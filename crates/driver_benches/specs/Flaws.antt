-- A driver that breaks a rule.
use Rattle.std.specs.Prelude.{ℕ, ◌<◌, Bool, true, false, List}
use Rattle.flash_model.specs.declared.geometry.Geometry.{Geometry}
use Rattle.flash_model.specs.declared.flash.DevFault.{DevFault}
use Rattle.flash_model.specs.declared.fault_kind.Operation.{Operation}
use Rattle.driver_checks.specs.declared.case.Case.{Case}
use Rattle.driver_checks.specs.declared.case.Case.TheVariants.{Sizes}
use Rattle.driver_checks.specs.declared.step.Step.{Step}
use Rattle.driver_checks.specs.Driver.{Driver}

-- the sizes that it tells
abbrev pub told_with : Case → Geometry → Geometry
told_with Sizes told = record told { blocks = 0 }
told_with _ told = told

-- the moments that it tells: none where it is silent
abbrev pub moments_with : Bool → (Operation → DevFault → ℕ) → Operation → DevFault → ℕ
moments_with true moments class fault = 0
moments_with false moments class fault = moments class fault

-- whether it answers that there is power
abbrev pub powered_with : Bool → Bool → Bool
powered_with true powered = false
powered_with false powered = powered

-- what it shows: the pages of the driver below it
abbrev pub driver_with : Case → Bool → Bool → ℕ → List Step → Driver → Driver
driver_with flaw silent off asked steps d =
    record d { told = told_with flaw d.told; powered = powered_with off d.powered; moments = moments_with silent d.moments; steps = steps; operations = asked }
