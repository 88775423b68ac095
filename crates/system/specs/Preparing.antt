-- What a step of preparing leaves of a flash and of the system on it.
use Rattle.std.specs.Prelude.{◌≡◌, ◌⊎◌, ℕ, ◌+◌, ◌≤◌, Bool, true, false, ◌||◌, None, Result, Ok, Err}
use Rattle.fs_types.specs.declared.fault.Fault.{Fault}
use Rattle.fs_types.specs.declared.fault.Fault.TheVariants.{ReadOnly, PowerCut}
use Rattle.flash_model.specs.Device.{Device}
use Rattle.bad_blocks.specs.Mode.{is_read_only}
use Rattle.system.specs.Preparations.{Preparation, PreparesBlocks, next_unprepared, preparation}
use Rattle.anchors.specs.Preparing.{IsPrepared, IsWanted, PreparesAnchor}
use Rattle.working_state.specs.Steps.{is_cut_answer}
use Rattle.system.specs.Cleaning.{IsUndisturbed}
use Rattle.system.specs.declared.systems.System.{System}

-- a flash and the system on it, as one prepares blocks of it
abbrev pub preparation_on : Device → System → Preparation
preparation_on d m = preparation d m.state.storage m.prepared

-- no anchor is to be erased ahead; this one is
abbrev pub HasNextAnchor : Device → System → Type 0
HasNextAnchor d m = IsPrepared d.geometry m.state.storage.bad m.anchors

abbrev pub WantsAnchor : Device → System → ℕ → Type 0
WantsAnchor d m anchor = IsWanted d.geometry m.state.storage.bad m.anchors anchor

-- the anchor that the next records go to was erased ahead, if it is to be, and nothing else changed
pub record PreparesItsAnchor (old : Device) (m : System) (budget : ℕ) (ended : Result ℕ Fault) (new : Device) (n : System) : Type 0 where
  pub anchor : PreparesAnchor old m.state.storage.bad m.anchors budget ended new n.state.storage.bad n.anchors
  pub rest : n ≡ record m { state = record m.state { storage = record m.state.storage { bad = n.state.storage.bad } }; anchors = n.anchors }

-- what is answered after the blocks: that all is done only where no anchor is to be erased ahead either
abbrev pub TellsBoth : Result Bool Fault → Device → System → Result Bool Fault → Type 0
TellsBoth (Ok true) d m result = ((result ≡ Ok true) × HasNextAnchor d m) ⊎ ((result ≡ Ok false) × (anchor : ℕ) × WantsAnchor d m anchor)
TellsBoth (Ok false) d m result = result ≡ Ok false
TellsBoth (Err fault) d m result = result ≡ Err fault

-- blocks that are taken next were prepared, so many at most
pub record PreparesBlocksOn (old : Device) (m : System) (budget : ℕ) (result : Result Bool Fault) (new : Device) (n : System) : Type 0 where
  pub ended : Result Bool Fault
  pub blocks : PreparesBlocks (preparation_on old m) budget ended (preparation_on new n)
  pub tells : TellsBoth ended new n result
  pub anchors : n.anchors ≡ m.anchors

-- that came with what was left of the budget; where the anchor was refused no more was done
abbrev pub BlocksFollow : Result ℕ Fault → Device → System → Result Bool Fault → Device → System → Type 0
BlocksFollow (Ok left) old m result new n = PreparesBlocksOn old m left result new n
BlocksFollow (Err fault) old m result new n = (result ≡ Err fault) × (preparation_on new n ≡ preparation_on old m) × (n.anchors ≡ m.anchors)

-- the anchor came first, and then the blocks
pub record PreparesInTurn (old : Device) (m : System) (budget : ℕ) (result : Result Bool Fault) (new : Device) (n : System) : Type 0 where
  pub flash : Device
  pub system : System
  pub ended : Result ℕ Fault
  pub anchor : PreparesItsAnchor old m budget ended flash system
  pub blocks : BlocksFollow ended flash system result new n

-- the anchor and the free blocks that are taken next were prepared, as far as the budget goes; in read-only mode nothing is done.
-- Each erase is one operation at most. Where all is prepared nothing is asked of the flash
pub record StepPrepares (old : Device) (m : System) (budget : ℕ) (result : Result Bool Fault) (new : Device) (n : System) : Type 0 where
  pub read_only : is_read_only m.state.storage.bad ≡ true → (result ≡ Err ReadOnly) × (new ≡ old) × (n.state.storage ≡ m.state.storage) × (n.prepared ≡ m.prepared) × (n.anchors ≡ m.anchors)
  pub prepares : is_read_only m.state.storage.bad ≡ false → PreparesInTurn old m budget result new n
  pub asks : new.operations ≤ old.operations + budget
  pub idle : is_read_only m.state.storage.bad ≡ false → HasNextAnchor old m → next_unprepared m.state.storage m.prepared ≡ None → (result ≡ Ok true) × (new ≡ old)

-- a step of preparing, whatever it answers. Once a call has answered that the power is off, nothing changes
pub record PreparesAhead (old : Device) (m : System) (budget : ℕ) (result : Result Bool Fault) (new : Device) (n : System) : Type 0 where
  pub undisturbed : IsUndisturbed old m new n
  pub cleaned_to : n.cleaned_to ≡ m.cleaned_to
  pub prepares : m.state.is_off ≡ false → StepPrepares old m budget result new n
  pub off : n.state.is_off ≡ m.state.is_off || is_cut_answer result
  pub stopped : m.state.is_off ≡ true → (result ≡ Err PowerCut) × (new ≡ old) × (n ≡ m)
