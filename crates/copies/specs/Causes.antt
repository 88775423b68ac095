-- Why a file system is not copied.
use Rattle.std.specs.Prelude.{◌≡◌, ◌⊎◌, None, List}
use Rattle.fs_types.specs.Names.{Path}
use Rattle.fs_types.specs.declared.call.Call.{Call}
use Rattle.fs_types.specs.declared.call.View.{View}
use Rattle.fs_types.specs.declared.fault.Fault.{Fault}
use Rattle.flash_model.specs.Device.{Device}
use Rattle.flash_model.specs.Reading.{OnlyReads}
use Rattle.history_machine.specs.History.{view_refusal}
use Rattle.history_machine.specs.Machine.{Machine, view_tree, working_tree}
use Rattle.inquiries.specs.Folders.{IsSmall}
use Rattle.inquiries.specs.Readings.{Meets}
use Rattle.inquiries.specs.declared.tell_fault.TellFault.{TellFault}
use Rattle.system.specs.Mounts.{IsMountOf}
use Rattle.system.specs.declared.systems.System.{System}
use Rattle.undofs.specs.Refusals.{RefusesMount}
use Rattle.working_state.specs.Seen.{machine_on}
use Rattle.history_copies.specs.Laws.{bringing}
use Rattle.tree_differences.specs.UpdateLaws.{Brings}
use Rattle.copies.specs.Calls.{Stops, StopsMoving}
use Rattle.copies.specs.declared.uncopied.Uncopied.{Uncopied}

abbrev pub of_untold : TellFault → Uncopied
of_untold (TellFault.Refused fault) = Uncopied.Unread fault
of_untold TellFault.TooManyLines = Uncopied.TooManyLines

-- a version or a checkpoint has a tree with too much
abbrev pub HasLarge : Machine → Type 0
HasLarge m = (view : View) × (view_refusal m.history view ≡ None) × (IsSmall (view_tree m view) → ⊥)

-- calls that make a version of the tree of a view of one machine stop on a file system that shows another one
pub record StopsBringing (m : Machine) (left : Device) (fault : Fault) : Type 0 where
  pub shows : Machine
  pub view : View
  pub changes : List Call
  pub brings : Brings (working_tree shows) (view_tree m view) changes
  pub path : Path
  pub stops : Stops shows (bringing changes path) left fault

-- why the copying from what a machine shows stops, which left the first flash so and the second: the reading met it on one of the
-- two; a tree has too much; or on the second the calls stop that make a version of a tree, or one beside these
abbrev pub NotCopied : Machine → Device → Device → Device → Uncopied → Type 0
NotCopied m first left second (Uncopied.Unread fault) = Meets first left fault ⊎ ((was : Device) × Meets was second fault)
NotCopied m first left second Uncopied.TooManyLines = HasLarge m
NotCopied m first left second (Uncopied.Refused fault) = StopsBringing m second fault ⊎ StopsMoving second fault
NotCopied m first left second _ = ⊥

-- the same, of a second flash that may not be mounted
abbrev pub NotCopiedTo : Machine → Device → Device → Device → Device → Uncopied → Type 0
NotCopiedTo m first left second other (Uncopied.Unready fault) = RefusesMount second other fault
NotCopiedTo m first left second other why = NotCopied m first left other why

-- the first flash is mounted, and is not copied
pub record CopiesNot (first left second other : Device) (why : Uncopied) : Type 0 where
  pub device : Device
  pub system : System
  pub mounted : IsMountOf first device system
  pub reads : OnlyReads first device
  pub cause : NotCopiedTo (machine_on device system.state) device left second other why

-- why a flash is not copied to another one, which are left so
abbrev pub CopyCause : Device → Device → Device → Device → Uncopied → Type 0
CopyCause first second left other (Uncopied.Unmounted fault) = RefusesMount first left fault
CopyCause first second left other why = CopiesNot first left second other why
