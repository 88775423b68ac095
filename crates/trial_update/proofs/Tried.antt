-- What a start comes to by the number of starts that are left.
use Rattle.std.proofs.Common.{◌≡◌, ◌≢◌, ◌+◌, ℕ, suc, List, Result, Ok, Err, refl, sym, ap, ◌∙◌, subst, add-one}
use Rattle.fs_types.specs.declared.fault.Fault.{Fault}
use Rattle.flash_model.specs.declared.flash.Flash.{Ghosts}
use Rattle.undofs.specs.declared.fs.Fs.{Fs}
use Rattle.trial_update.specs.Turns.{TakesAll}
use Rattle.fs_types.specs.declared.call.Call.{Call}
use Rattle.fs_types.specs.declared.call.Reply.{Reply}
use Rattle.fs_types.specs.declared.call.View.{View}
use Rattle.fs_types.specs.declared.fault.Fault.TheVariants.{NoEntry}
use Rattle.undofs.specs.Systems.{StepsBetween}
use Rattle.trial_update.specs.Trials.{taking_off, coming_to, starts_in, Tries, Starts}
use Rattle.trial_update.specs.declared.trial.Started.{Started}

module _ {F : Type 0} {flash : Ghosts F} where
  -- with some left it has one less
  pub some_tries : (trial : List (List ℕ)) (good : List ℕ) (left less : ℕ) (before : Fs F flash) (done : Result (Unit {0}) Fault) (after : Fs F flash) (result : Result Started Fault)
      → left ≡ less + 1 → result ≡ coming_to (Started.OnTrial less) done → TakesAll before (taking_off trial less) done after → Tries trial good left before result after
  some_tries trial good left less before done after result more is takes =
      let next : suc less ≡ left = rw add-one at (sym more) in
      subst (λ (k : ℕ). Tries trial good k before result after) next (done, takes, is)

  -- the file is read
  pub read_starts : (trial : List (List ℕ)) (good : List ℕ) (before : Fs F flash) (bytes read : List ℕ) (left : ℕ) (looked : Fs F flash) (result : Result Started Fault) (after : Fs F flash)
      → left ≡ starts_in read → read ≡ bytes → StepsBetween before (Call.ReadAt View.Present trial 0 1) (Ok (Reply.Bytes bytes)) looked
      → Tries trial good left looked result after → Starts trial good before result after
  read_starts trial good before bytes read left looked result after tells same look tries = record {
    looked = looked;
    read = Ok bytes;
    look = look;
    decides = subst (λ (k : ℕ). Tries trial good k looked result after) (tells ∙ ap starts_in same) tries;
  }

  -- it is not read
  pub unread_starts : (trial : List (List ℕ)) (good : List ℕ) (before : Fs F flash) (fault : Fault) (result : Result Started Fault) (after : Fs F flash)
      → StepsBetween before (Call.ReadAt View.Present trial 0 1) (Err fault) after
      → (fault ≡ NoEntry → result ≡ Ok Started.Settled) → (fault ≢ NoEntry → result ≡ Err fault) → Starts trial good before result after
  unread_starts trial good before fault result after look missing other = record {
    looked = after;
    read = Err fault;
    look = look;
    decides = (missing, other, refl);
  }
