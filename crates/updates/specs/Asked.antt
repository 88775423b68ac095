-- What is told of two flashes to who asks for an update.
use Rattle.std.specs.Prelude.{◌≡◌, ◌⊎◌, ℕ, List}
use Rattle.fs_types.specs.declared.fault.Fault.{Fault}
use Rattle.flash_model.specs.Device.{Device}
use Rattle.flash_model.specs.Reading.{OnlyReads}
use Rattle.flash_model.specs.declared.flash.Flash.{Ghosts}
use Rattle.plain_trees.specs.Trees.{Tree}
use Rattle.history_machine.specs.Machine.{Machine, working_tree}
use Rattle.working_state.specs.Seen.{machine_on}
use Rattle.system.specs.Mounts.{IsMountOf}
use Rattle.system.specs.declared.systems.System.{System}
use Rattle.undofs.specs.Refusals.{RefusesMount}
use Rattle.undofs.specs.declared.fs.Fs.{Fs}
use Rattle.inquiries.specs.Folders.{IsSmall}
use Rattle.inquiries.specs.Readings.{Meets}
use Rattle.inquiries.specs.declared.asking.AskFault.{AskFault}
use Rattle.inquiries.specs.declared.tell_fault.TellFault.{TellFault}
use Rattle.updates.specs.Lines.{update_text}
use Rattle.updates.specs.declared.manner.Manner.{Manner}

-- neither tree has too much
abbrev pub AreSmall : Tree → Tree → Type 0
AreSmall old new = IsSmall old × IsSmall new

-- the work met it on one of two flashes
abbrev pub MeetsOne : Device → Device → Device → Device → Fault → Type 0
MeetsOne first left second other fault = Meets first left fault ⊎ Meets second other fault

module _ {F G : Type 0} {flash : Ghosts F} {another : Ghosts G} where
  -- the work on two file systems met it
  abbrev pub MeetsEither : Fs F flash → Fs G another → Fs F flash → Fs G another → Fault → Type 0
  MeetsEither first second left other fault =
      MeetsOne (flash.device first.flash.now) (flash.device left.flash.now) (another.device second.flash.now) (another.device other.flash.now) fault

  -- why no update of one tree to another is told: by what the work met, or a tree has too much
  abbrev pub Untold : Tree → Tree → Fs F flash → Fs G another → Fs F flash → Fs G another → TellFault → Type 0
  Untold old new first second left other (TellFault.Refused fault) = MeetsEither first second left other fault
  Untold old new first second left other TellFault.TooManyLines = AreSmall old new → ⊥

-- the newest record of the second flash is mounted, and these bytes are what brings a machine's tree to its tree in this manner
pub record TellsSecond (manner : Manner) (m : Machine) (e : Device) (bytes : List ℕ) : Type 0 where
  pub device : Device
  pub system : System
  pub mounted : IsMountOf e device system
  pub small : AreSmall (working_tree m) (working_tree (machine_on device system.state))
  pub told : bytes ≡ update_text manner (working_tree m) (working_tree (machine_on device system.state))

-- it is mounted, and nothing is told: by what the work met, where the first was left so, or a tree has too much
pub record RefusesSecond (e : Device) (Why : Device → Tree → Type 0) : Type 0 where
  pub device : Device
  pub system : System
  pub mounted : IsMountOf e device system
  pub why : Why device (working_tree (machine_on device system.state))

-- why nothing is told of the second flash, which is left so, where the first was left so too
abbrev pub SecondCause : Machine → Device → Device → Device → Device → AskFault → Type 0
SecondCause m first left e other (AskFault.Unmounted fault) = RefusesMount e other fault
SecondCause m first left e other (AskFault.Refused fault) = RefusesSecond e (λ device t. MeetsOne first left device other fault)
SecondCause m first left e other AskFault.TooManyLines = RefusesSecond e (λ device t. AreSmall (working_tree m) t → ⊥)

-- the newest records of two flashes are mounted, and these bytes are what brings the tree of the first to that of the second
pub record TellsUpdate (manner : Manner) (d e : Device) (bytes : List ℕ) : Type 0 where
  pub device : Device
  pub system : System
  pub mounted : IsMountOf d device system
  pub second : TellsSecond manner (machine_on device system.state) e bytes

-- the first is mounted, and nothing is told of the second
pub record RefusesUpdate (d e left other : Device) (fault : AskFault) : Type 0 where
  pub device : Device
  pub system : System
  pub mounted : IsMountOf d device system
  pub reads : OnlyReads d device
  pub why : SecondCause (machine_on device system.state) device left e other fault

-- why no update is told of two flashes, which are left so
abbrev pub UpdateCause : Device → Device → Device → Device → AskFault → Type 0
UpdateCause d e left other fault = ((why : Fault) × RefusesMount d left why × (fault ≡ AskFault.Unmounted why)) ⊎ RefusesUpdate d e left other fault
