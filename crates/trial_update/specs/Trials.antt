-- An update on trial: the calls that begin it, what a start does with it, and the calls that keep it.
use Rattle.std.specs.Prelude.{◌≡◌, ◌≢◌, ℕ, zero, suc, ◌+◌, ◌-◌, ◌%◌, nat_le, ◌&&◌, List, [], ◌∷◌, ◌++◌, map, Result, Ok, Err, if◌then◌else◌}
use Rattle.fs_types.specs.declared.call.Call.{Call}
use Rattle.fs_types.specs.declared.call.Reply.{Reply}
use Rattle.fs_types.specs.declared.call.View.{View}
use Rattle.fs_types.specs.declared.fault.Fault.{Fault}
use Rattle.fs_types.specs.declared.fault.Fault.TheVariants.{NoEntry}
use Rattle.flash_model.specs.declared.flash.Flash.{Ghosts}
use Rattle.working_state.specs.Steps.{replied}
use Rattle.undofs.specs.Systems.{StepsBetween}
use Rattle.undofs.specs.declared.fs.Fs.{Fs}
use Rattle.trial_update.specs.Turns.{TakesAll}
use Rattle.trial_update.specs.declared.trial.NewFile.{NewFile}
use Rattle.trial_update.specs.declared.trial.Started.{Started}

abbrev pub writing : NewFile → Call
writing file = Call.WriteFile file.path file.bytes.items

-- the file of the starts that are left has one digit
abbrev pub leaving : List (List ℕ) → ℕ → Call
leaving trial left = Call.WriteFile trial ((48 + left % 10) ∷ [])

-- an update of these files is begun, with three starts
abbrev pub beginning : List (List ℕ) → List NewFile → List Call
beginning trial files = Call.Begin ∷ (map writing files ++ (leaving trial 3 ∷ Call.End ∷ Call.Sync ∷ []))

-- the device goes back to the tree that is known to work
abbrev pub giving_up : List ℕ → List Call
giving_up good = Call.Rollback good ∷ Call.Sync ∷ []

-- so many starts are left
abbrev pub taking_off : List (List ℕ) → ℕ → List Call
taking_off trial left = leaving trial left ∷ Call.Sync ∷ []

-- the update is on trial no more, and its tree is the one that is known to work, all in one record
abbrev pub keeping : List (List ℕ) → List ℕ → List Call
keeping trial good = Call.Begin ∷ Call.Unlink trial ∷ Call.End ∷ Call.RemoveCheckpoint good ∷ Call.Checkpoint good ∷ Call.Sync ∷ []

-- the number that the first byte of a file is a digit of
abbrev pub starts_in : List ℕ → ℕ
starts_in [] = 0
starts_in (digit ∷ more) = if nat_le 48 digit && nat_le digit 57 then digit - 48 else 0

-- what calls that were answered so come to
abbrev pub coming_to : Started → Result (Unit {0}) Fault → Result Started Fault
coming_to started (Ok done) = Ok started
coming_to started (Err fault) = Err fault

module _ {F : Type 0} {flash : Ghosts F} where
  -- a start with so many left: it is given up with none, and else has one less
  abbrev pub Tries : List (List ℕ) → List ℕ → ℕ → Fs F flash → Result Started Fault → Fs F flash → Type 0
  Tries trial good zero before result after =
      (done : Result (Unit {0}) Fault) × TakesAll before (giving_up good) done after × (result ≡ coming_to Started.GivenUp done)
  Tries trial good (suc left) before result after =
      (done : Result (Unit {0}) Fault) × TakesAll before (taking_off trial left) done after × (result ≡ coming_to (Started.OnTrial left) done)

  -- what a start does where the file of the starts is read so
  abbrev pub Decides : List (List ℕ) → List ℕ → Fs F flash → Result (List ℕ) Fault → Result Started Fault → Fs F flash → Type 0
  Decides trial good looked (Ok bytes) result after = Tries trial good (starts_in bytes) looked result after
  Decides trial good looked (Err fault) result after = (fault ≡ NoEntry → result ≡ Ok Started.Settled) × (fault ≢ NoEntry → result ≡ Err fault) × (after ≡ looked)

  -- a start reads that file, and does what that decides
  pub record Starts (trial : List (List ℕ)) (good : List ℕ) (before : Fs F flash) (result : Result Started Fault) (after : Fs F flash) : Type 0 where
    pub looked : Fs F flash
    pub read : Result (List ℕ) Fault
    pub look : StepsBetween before (Call.ReadAt View.Present trial 0 1) (replied Reply.Bytes read) looked
    pub decides : Decides trial good looked read result after
