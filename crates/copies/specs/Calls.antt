-- Calls on the file system to which a history is copied.
use Rattle.std.specs.Prelude.{◌≡◌, ◌⊎◌, ℕ, List, [], ◌∷◌, ◌++◌, Err, Option, Some, None, IfSome, All}
use Rattle.fs_types.specs.declared.call.Call.{Call}
use Rattle.fs_types.specs.declared.call.View.{View}
use Rattle.fs_types.specs.declared.fault.Fault.{Fault}
use Rattle.flash_model.specs.Device.{Device}
use Rattle.flash_model.specs.declared.flash.Flash.{Ghosts}
use Rattle.history_machine.specs.History.{view_refusal}
use Rattle.history_machine.specs.Machine.{Machine, mounted, present_tree, view_tree, working_tree, after}
use Rattle.inquiries.specs.Folders.{IsSmall}
use Rattle.inquiries.specs.Readings.{shown}
use Rattle.mounting.specs.Saved.{saved_trees}
use Rattle.system.specs.Steps.{SystemStep}
use Rattle.system.specs.declared.systems.System.{System}
use Rattle.tree_differences.specs.UpdateLaws.{EachAccepted}
use Rattle.undofs.specs.declared.fs.Fs.{Fs}
use Rattle.working_state.specs.Seen.{machine_on}

-- calls are accepted one after the other, and lead there
pub record Does (m : Machine) (calls : List Call) (n : Machine) : Type 0 where
  pub accepted : EachAccepted m calls
  pub leads : n ≡ after m calls

-- no group and no file is open, and neither the present tree nor that of a checkpoint has too much
pub record IsReady (m : Machine) : Type 0 where
  pub rests : m ≡ mounted m.history
  pub small : IsSmall (present_tree m)
  pub kept : All (λ e. IsSmall e.1) m.history.checkpoints

-- a version is there, and another machine has its tree
pub record HasTreeOf (m n : Machine) (serial : ℕ) : Type 0 where
  pub there : view_refusal m.history (View.Serial serial) ≡ None
  pub tree : view_tree m (View.Serial serial) ≡ working_tree n

-- it is ready, with the tree of this version of another machine, where one is given
pub record IsReadyAfter (m : Machine) (last : Option ℕ) (n : Machine) : Type 0 where
  pub ready : IsReady n
  pub has : IfSome last (HasTreeOf m n)

-- on a file system that shows a machine the first of these calls are accepted, and the next one is refused, which left its flash so
pub record IsRefused (m : Machine) (calls : List Call) (left : Device) (fault : Fault) : Type 0 where
  pub made : List Call
  pub call : Call
  pub rest : List Call
  pub device : Device
  pub system : System
  pub later : System
  pub are : calls ≡ made ++ call ∷ rest
  pub done : Does m made (machine_on device system.state)
  pub step : SystemStep device system call (Err fault) left later

-- why they stop, which left the flash so: one is refused, or there is no memory to make it
abbrev pub Stops : Machine → List Call → Device → Fault → Type 0
Stops m calls left fault = (fault ≡ Fault.NoMemory) ⊎ IsRefused m calls left fault

-- on some flash a call was refused
pub record WasRefused (call : Call) : Type 0 where
  pub device : Device
  pub left : Device
  pub system : System
  pub later : System
  pub fault : Fault
  pub step : SystemStep device system call (Err fault) left later

-- a call of a copy that makes no version of changes: it tells the history, keeps a tree or forgets one, moves, or syncs
abbrev pub IsMove : Call → Type 0
IsMove Call.Log = Unit {0}
IsMove (Call.Checkpoint name) = Unit {0}
IsMove (Call.Rollback name) = Unit {0}
IsMove (Call.Forget count) = Unit {0}
IsMove (Call.Goto serial) = Unit {0}
IsMove Call.Sync = Unit {0}
IsMove _ = ⊥

-- such a call stops
abbrev pub StopsMoving : Device → Fault → Type 0
StopsMoving left fault = (n : Machine) × (call : Call) × IsMove call × Stops n (call ∷ []) left fault

-- the newest record of its flash has the history that a file system shows
abbrev pub IsSynced : {G : Type 0} {flash : Ghosts G} → Fs G flash → Type 0
IsSynced {G} {flash} fs = saved_trees (flash.device fs.flash.now) ≡ Some (shown fs).history
