-- Calls on a mounted file system in turn, up to the first that is refused.
use Rattle.std.specs.Prelude.{◌≡◌, List, [], ◌∷◌, Result, Ok, Err}
use Rattle.fs_types.specs.declared.call.Call.{Call}
use Rattle.fs_types.specs.declared.fault.Fault.{Fault}
use Rattle.flash_model.specs.declared.flash.Flash.{Ghosts}
use Rattle.working_state.specs.Steps.{replied, empty}
use Rattle.undofs.specs.Systems.{StepsBetween}
use Rattle.undofs.specs.declared.fs.Fs.{Fs}

module _ {F : Type 0} {flash : Ghosts F} where
  -- after a call that was answered so: the rest, where it is done; else its refusal is the answer to all, and nothing follows
  abbrev pub GoesOn : Type 0 → Fs F flash → Result (Unit {0}) Fault → Result (Unit {0}) Fault → Fs F flash → Type 0
  GoesOn rest between (Ok done) result after = rest
  GoesOn rest between (Err fault) result after = (result ≡ Err fault) × (after ≡ between)

  -- calls that are answered by nothing but that they are done take their steps in turn, up to the first that is refused
  abbrev pub TakesAll : Fs F flash → List Call → Result (Unit {0}) Fault → Fs F flash → Type 0
  TakesAll before [] result after = (result ≡ Ok tt) × (after ≡ before)
  TakesAll before (call ∷ more) result after =
      (between : Fs F flash) × (answer : Result (Unit {0}) Fault) × StepsBetween before call (replied empty answer) between
      × GoesOn (TakesAll between more result after) between answer result after
