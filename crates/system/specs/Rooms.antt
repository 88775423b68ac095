-- Room for a second try of a call that found the flash full: the working history is committed, so that nothing else
-- must stay but a group, and used blocks are marked anew.
use Rattle.std.specs.Prelude.{◌≡◌, ◌≢◌, ◌⊎◌, ℕ, ◌-◌, ◌^◌, Bool, true, false, None, Result, Ok, Err}
use Rattle.fs_types.specs.declared.call.Reply.{Reply}
use Rattle.fs_types.specs.declared.fault.Fault.{Fault}
use Rattle.fs_types.specs.declared.fault.Fault.TheVariants.{FlashFull}
use Rattle.flash_model.specs.Device.{Device}
use Rattle.system.specs.Commits.{Saves, SaveCause}
use Rattle.system.specs.Reclaiming.{Reclaims}
use Rattle.system.specs.Systems.{IsSystem}
use Rattle.system.specs.declared.systems.System.{System}

-- a system with no marking that goes on
abbrev pub unmarked : System → System
unmarked m = record m { pass = None }

abbrev pub no_limit : ℕ
no_limit = 2 ^ 64 - 1

-- the working history was committed, and then all that must stay was marked, as by a step of reclaiming that begins
-- anew, or that was refused
pub record MarksAnew (old : Device) (m : System) (result : Result Bool Fault) (new : Device) (n : System) : Type 0 where
  pub device : Device
  pub system : System
  pub saves : Saves {T = Unit {0}} old (unmarked m) (Ok tt) device system
  pub committed : IsSystem device system
  pub anew : system.pass ≡ None
  pub marks : Reclaims device system no_limit result new n

-- the commit was refused
pub record LacksCommit (old : Device) (m : System) (fault : Fault) (new : Device) (n : System) : Type 0 where
  pub saves : Saves {T = Unit {0}} old (unmarked m) (Err fault) new n
  pub why : SaveCause old (unmarked m) new n fault
  pub pass : n.pass ≡ None

-- what was answered first tells whether room is to be made: only where the flash was full. Then it was made, or
-- that was refused
abbrev pub MakesRoom : Result Reply Fault → Device → System → Result Bool Fault → Device → System → Type 0
MakesRoom first old m (Ok false) new n = (first ≢ Err FlashFull) × (new ≡ old) × (n ≡ m)
MakesRoom first old m (Ok true) new n = (first ≡ Err FlashFull) × MarksAnew old m (Ok true) new n
MakesRoom first old m (Err fault) new n =
    (first ≡ Err FlashFull) × (LacksCommit old m fault new n ⊎ MarksAnew old m (Err fault) new n)
