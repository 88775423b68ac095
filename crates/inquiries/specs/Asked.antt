-- What is told of a flash to who asks.
use Rattle.std.specs.Prelude.{◌≡◌, ◌⊎◌, ℕ, Some, None, List}
use Rattle.fs_types.specs.declared.fault.Fault.{Fault}
use Rattle.flash_model.specs.Device.{Device}
use Rattle.flash_model.specs.Reading.{OnlyReads}
use Rattle.working_state.specs.Seen.{machine_on}
use Rattle.system.specs.Mounts.{IsMountOf}
use Rattle.system.specs.declared.systems.System.{System}
use Rattle.undofs.specs.Refusals.{RefusesMount}
use Rattle.fs_types.specs.declared.call.View.{View}
use Rattle.history_machine.specs.Machine.{view_tree}
use Rattle.inquiries.specs.Items.{items_of}
use Rattle.inquiries.specs.declared.items.Item.{Item}
use Rattle.inquiries.specs.Inquiries.{inquiry_refusal, IsTold, HasFewLines, HasManyLines}
use Rattle.inquiries.specs.Readings.{Meets}
use Rattle.inquiries.specs.declared.asking.AskFault.{AskFault}
use Rattle.inquiries.specs.declared.inquiry.Inquiry.{Inquiry}

-- what the newest record holds is mounted, and these bytes are told of it
pub record Tells (d : Device) (inquiry : Inquiry) (bytes : List ℕ) : Type 0 where
  pub device : Device
  pub system : System
  pub mounted : IsMountOf d device system
  pub accepted : inquiry_refusal (machine_on device system.state) inquiry ≡ None
  pub few : HasFewLines (machine_on device system.state) inquiry
  pub told : IsTold device system.state inquiry bytes

-- what the newest record holds is mounted, and this is all that stands in its present tree
pub record Lists (d : Device) (items : List Item) : Type 0 where
  pub device : Device
  pub system : System
  pub mounted : IsMountOf d device system
  pub few : HasFewLines (machine_on device system.state) (Inquiry.Tree View.Present)
  pub all : items ≡ items_of (view_tree (machine_on device system.state) View.Present)

-- it is mounted, and what is asked is refused: by the refusal that is its own, or by what the work met on the flash as it is left
pub record RefusesInquiry (d : Device) (inquiry : Inquiry) (left : Device) (fault : Fault) : Type 0 where
  pub device : Device
  pub system : System
  pub mounted : IsMountOf d device system
  pub reads : OnlyReads d device
  pub why : (inquiry_refusal (machine_on device system.state) inquiry ≡ Some fault) ⊎ Meets device left fault

-- it is mounted, and what is asked is not refused, but too many lines would be told, or too many entries looked at
pub record HasTooMany (d : Device) (inquiry : Inquiry) : Type 0 where
  pub device : Device
  pub system : System
  pub mounted : IsMountOf d device system
  pub accepted : inquiry_refusal (machine_on device system.state) inquiry ≡ None
  pub many : HasManyLines (machine_on device system.state) inquiry

-- why nothing is told of a flash that is left so: no system is mounted, or what is asked is refused
abbrev pub AskCause : Device → Inquiry → Device → AskFault → Type 0
AskCause d inquiry left (AskFault.Unmounted fault) = RefusesMount d left fault
AskCause d inquiry left (AskFault.Refused fault) = RefusesInquiry d inquiry left fault
AskCause d inquiry left AskFault.TooManyLines = HasTooMany d inquiry
