-- What is left of a mounted file system that is only read, and why a reading is refused.
use Rattle.std.specs.Prelude.{◌≡◌, ◌⊎◌, ◌≤◌, ◌<◌, ℕ, false, Option, Some}
use Rattle.fs_types.specs.declared.fault.Fault.{Fault}
use Rattle.history_machine.specs.Machine.{Machine}
use Rattle.flash_model.specs.Device.{Device}
use Rattle.flash_model.specs.declared.flash.Flash.{Ghosts}
use Rattle.working_state.specs.Seen.{machine_on}
use Rattle.working_state.specs.declared.state.State.{State}
use Rattle.undofs.specs.Systems.{flash_name}
use Rattle.undofs.specs.declared.fs.Fs.{Fs}

-- what the work on a flash may meet: a read failed; the power is off; memory was wanted
abbrev pub Meets : Device → Device → Fault → Type 0
Meets old new Fault.ReadFailed = old.failed_reads < new.failed_reads
Meets old new Fault.PowerCut = new.powered ≡ false
Meets old new Fault.NoMemory = Unit {0}
Meets old new _ = ⊥

-- a flash with a state on it shows what another one does, of which no page is other
pub record IsStillShown (d : Device) (s : State) (e : Device) (t : State) : Type 0 where
  pub machine : machine_on e t ≡ machine_on d s
  pub pages : (p : ℕ) → e.pages p ≡ d.pages p
  pub failed_reads : d.failed_reads ≤ e.failed_reads

module _ {F : Type 0} {flash : Ghosts F} where
  -- the machine that a file system shows
  abbrev pub shown : Fs F flash → Machine
  shown fs = machine_on (flash.device fs.flash.now) fs.system.state

  -- the file system shows what it did, and no page of the flash changed
  pub record IsUnchanged (old new : Fs F flash) : Type 0 where
    pub machine : shown new ≡ shown old
    pub pages : (p : ℕ) → (flash.device new.flash.now).pages p ≡ (flash.device old.flash.now).pages p
    pub failed_reads : (flash.device old.flash.now).failed_reads ≤ (flash.device new.flash.now).failed_reads
    pub same_flash : flash_name new ≡ flash_name old

  -- why a reading is refused: by the refusal that is its own, if it has one, or by what the work met
  abbrev pub Fails : Option Fault → Fs F flash → Fs F flash → Fault → Type 0
  Fails own old new fault = (own ≡ Some fault) ⊎ Meets (flash.device old.flash.now) (flash.device new.flash.now) fault
