-- The plan of faults of a flash, as its operations go on.
use Rattle.std.specs.Prelude.{◌≡◌, ◌+◌, ℕ, true, List, [], ◌∷◌, length, filter, Bool, Option, None, Some}
use Rattle.flash_model.specs.Device.{Device}
use Rattle.flash_model.specs.Plan.{Schedule, begun}
use Rattle.flash_simulation.specs.Simulation.{device_of, plan_of}
use Rattle.flash_model.specs.declared.fault_kind.Operation.{Operation}
use Rattle.flash_model.specs.declared.fault_kind.PlannedFault.{PlannedFault}
use Rattle.flash_simulation.specs.declared.sim_flash.SimFlash.{SimFlash}

-- a plan when operations of these classes have begun, in order: each takes from it what has come due
abbrev pub begun_all : Schedule → List Operation → Schedule
begun_all plan [] = plan
begun_all plan (class ∷ classes) = begun_all (begun plan class) classes

-- a flash with its power on, for which no fault is planned
pub record IsCalm (d : Device) (plan : Schedule) : Type 0 where
  pub powered : d.powered ≡ true
  pub none_waits : plan.waiting ≡ []

-- no operation failed since, and power was not lost
pub record StaysCalm (old new : Device) (plan : Schedule) : Type 0 where
  pub no_failed_read : new.failed_reads ≡ old.failed_reads
  pub no_failure : new.failures ≡ old.failures
  pub calm : IsCalm new plan

-- the plan of a flash then and now: the operations between took from it what came due, each by its class; and where no fault
-- was planned, none failed
pub record HasBegun (old : Device) (before : Schedule) (new : Device) (after : Schedule) : Type 0 where
  pub classes : List Operation
  pub plan : after ≡ begun_all before classes
  pub count : new.operations ≡ old.operations + length classes
  pub calm : IsCalm old before → StaysCalm old new after

-- a plan goes on by the operations of its flash, and by nothing else
abbrev pub GoesOn : Device → Schedule → Device → Schedule → Type 0
GoesOn old before new after = ∥ HasBegun old before new after ∥₁

-- the same of a flash that may have no plan: then it gets none
abbrev pub PlanGoesOn : Device → Option Schedule → Device → Option Schedule → Type 0
PlanGoesOn old (Some before) new (Some after) = GoesOn old before new after
PlanGoesOn old None new None = Unit {0}
PlanGoesOn old _ new _ = ⊥

-- the plan of a flash goes on so
abbrev pub FollowsPlan : SimFlash → SimFlash → Type 0
FollowsPlan old new = GoesOn (device_of old) (plan_of old) (device_of new) (plan_of new)

-- so the entries that wait then are some of those before, in order
abbrev pub EntriesLaw : Type 0
EntriesLaw = (old new : Device) (before after : Schedule) → GoesOn old before new after → ∥ ((keep : PlannedFault → Bool) × (after.waiting ≡ filter keep before.waiting)) ∥₁
