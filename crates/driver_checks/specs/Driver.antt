-- A driver on its bench.
use Rattle.std.specs.Prelude.{◌≡◌, ℕ, ◌+◌, ◌≤◌, Bool, List}
use Rattle.flash_model.specs.declared.geometry.Geometry.{Geometry}
use Rattle.flash_model.specs.declared.flash.DevFault.{DevFault}
use Rattle.flash_model.specs.declared.fault_kind.Operation.{Operation}
use Rattle.flash_model.specs.Device.{Page, Device}
use Rattle.driver_checks.specs.declared.area.Area.{Area}
use Rattle.driver_checks.specs.declared.step.Step.{Step}

-- the blocks that may be used up, the sizes that the driver tells, what a read shows of each page, whether power is on by the last answer, at how many moments of an operation a fault can be planned, the steps so far with the last one first, and how many operations were asked
pub record Driver : Type 0 where
  pub area : Area
  pub told : Geometry
  pub pages : ℕ → Page
  pub powered : Bool
  pub moments : Operation → DevFault → ℕ
  pub steps : List Step
  pub operations : ℕ

-- at most so many reads, programs and erases; of what they did to pages nothing is said
pub record AsksAtMost (old new : Driver) (most : ℕ) : Type 0 where
  pub area : new.area ≡ old.area
  pub moments : new.moments ≡ old.moments
  pub operations : new.operations ≤ old.operations + most

-- at most so many reads, which change nothing that is shown and are no step
pub record OnlyAsks (old new : Driver) (most : ℕ) : Type 0 where
  pub area : new.area ≡ old.area
  pub told : new.told ≡ old.told
  pub pages : (p : ℕ) → new.pages p ≡ old.pages p
  pub moments : new.moments ≡ old.moments
  pub steps : new.steps ≡ old.steps
  pub operations : new.operations ≤ old.operations + most

-- a flash on its bench, with its moments and the steps so far
abbrev pub driver_of : Area → Device → (Operation → DevFault → ℕ) → List Step → Driver
driver_of area d moments steps =
    record { area = area; told = d.geometry; pages = d.pages; powered = d.powered; moments = moments; steps = steps; operations = d.operations }
