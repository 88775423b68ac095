-- Calls in turn.
use Rattle.std.proofs.Common.{◌≡◌, ◌<◌, ◌≤◌, ◌+◌, ℕ, suc, List, [], ◌∷◌, ◌++◌, length, map, get_or, drop, Result, Ok, Err, refl, sym, ap, subst, ◌∙◌, rules, add-one, drop-cons}
use Rattle.std.proofs.lemmas.List.{drop_all}
use Rattle.fs_types.specs.declared.call.Call.{Call}
use Rattle.fs_types.specs.declared.call.Reply.{Reply}
use Rattle.fs_types.specs.declared.fault.Fault.{Fault}
use Rattle.flash_model.specs.declared.flash.Flash.{Ghosts}
use Rattle.working_state.specs.Steps.{replied, empty}
use Rattle.undofs.specs.Systems.{StepsBetween}
use Rattle.undofs.specs.declared.fs.Fs.{Fs}
use Rattle.trial_update.specs.Turns.{TakesAll, GoesOn}

first_left : {A : Type 0} (f : A → Call) (xs : List A) (i : ℕ) (x : A) → i < length xs → x ≡ get_or xs i x → map f (drop i xs) ≡ f x ∷ map f (drop (i + 1) xs)
first_left {A} f xs i x below is =
    rw add-one (ap (map f) (drop-cons xs i x below) ∙ ap (λ (y : A). f y ∷ map f (drop (suc i) xs)) (sym is))

module _ {F : Type 0} {flash : Ghosts F} where
  -- a call alone
  takes_one : (before : Fs F flash) (call : Call) (answer : Result (Unit {0}) Fault) (after : Fs F flash)
      → StepsBetween before call (replied empty answer) after → TakesAll before (call ∷ []) answer after
  takes_one before call (Ok done) after step = (after, Ok done, step, (refl, refl))
  takes_one before call (Err fault) after step = (after, Err fault, step, (refl, refl))

  -- a call that is refused ends it
  stops_at : (before : Fs F flash) (call : Call) (more : List Call) (fault : Fault) (after : Fs F flash)
      → StepsBetween before call (Err fault) after → TakesAll before (call ∷ more) (Err fault) after
  stops_at before call more fault after step = (after, Err fault, step, (refl, refl))

  -- a call that is done, and those after it
  takes_more : (before : Fs F flash) (call : Call) (between : Fs F flash) (more : List Call) (result : Result (Unit {0}) Fault) (after : Fs F flash)
      → StepsBetween before call (Ok Reply.Empty) between → TakesAll between more result after → TakesAll before (call ∷ more) result after
  takes_more before call between more result after step rest = (between, Ok tt, step, rest)

  goes_both : (P Q : Type 0) → (P → Q) → (between : Fs F flash) (answer : Result (Unit {0}) Fault) (mid : Fs F flash) (result : Result (Unit {0}) Fault) (after : Fs F flash)
      → GoesOn P between answer (Ok tt) mid → GoesOn Q between answer result after
  goes_both P Q f between (Ok done) mid result after goes = f goes
  goes_both P Q f between (Err fault) mid result after goes = absurd (search rules)

  -- calls that are all done, and those after them
  takes_both : (before : Fs F flash) (first : List Call) (mid : Fs F flash) (more : List Call) (result : Result (Unit {0}) Fault) (after : Fs F flash)
      → TakesAll before first (Ok tt) mid → TakesAll mid more result after → TakesAll before (first ++ more) result after
  takes_both before [] mid more result after done rest = subst (λ (fs : Fs F flash). TakesAll fs more result after) done.1 rest
  takes_both before (call ∷ first) mid more result after done rest = (
    done.0,
    done.1,
    done.2,
    goes_both (TakesAll done.0 first (Ok tt) mid) (TakesAll done.0 (first ++ more) result after)
        (λ others. takes_both done.0 first mid more result after others rest) done.0 done.1 mid result after done.3,
  )

  goes_out : (P Q : Type 0) → (P → Q) → (between : Fs F flash) (answer : Result (Unit {0}) Fault) (fault : Fault) (after : Fs F flash)
      → GoesOn P between answer (Err fault) after → GoesOn Q between answer (Err fault) after
  goes_out P Q f between (Ok done) fault after goes = f goes
  goes_out P Q f between (Err other) fault after goes = goes

  -- calls of which one is refused, and those after them
  stops_in : (before : Fs F flash) (first : List Call) (more : List Call) (fault : Fault) (after : Fs F flash)
      → TakesAll before first (Err fault) after → TakesAll before (first ++ more) (Err fault) after
  stops_in before [] more fault after stops = absurd (search rules)
  stops_in before (call ∷ first) more fault after stops = (
    stops.0,
    stops.1,
    stops.2,
    goes_out (TakesAll stops.0 first (Err fault) after) (TakesAll stops.0 (first ++ more) (Err fault) after)
        (λ others. stops_in stops.0 first more fault after others) stops.0 stops.1 fault after stops.3,
  )

  -- what the calls that are left come to, all calls come to
  pub record IsLeft (before : Fs F flash) (calls : List Call) (now : Fs F flash) (left : List Call) : Type 0 where
    pub come : (result : Result (Unit {0}) Fault) (after : Fs F flash) → TakesAll now left result after → TakesAll before calls result after

  pub all_left : (before : Fs F flash) (calls : List Call) → IsLeft before calls before calls
  all_left before calls = record { come = λ result after takes. takes }

  -- the next call is done
  pub one_done : (before : Fs F flash) (calls : List Call) (now : Fs F flash) (call : Call) (more : List Call) (between : Fs F flash)
      → IsLeft before calls now (call ∷ more) → StepsBetween now call (Ok Reply.Empty) between → IsLeft before calls between more
  one_done before calls now call more between left step = record {
    come = λ result after takes. left.come result after (takes_more now call between more result after step takes);
  }

  -- it is refused
  pub one_refused : (before : Fs F flash) (calls : List Call) (now : Fs F flash) (call : Call) (more : List Call) (after : Fs F flash) (fault : Fault) (result : Result (Unit {0}) Fault)
      → result ≡ Err fault → IsLeft before calls now (call ∷ more) → StepsBetween now call (Err fault) after → TakesAll before calls result after
  one_refused before calls now call more after fault result is left step =
      subst (λ (r : Result (Unit {0}) Fault). TakesAll before calls r after) (sym is) (left.come (Err fault) after (stops_at now call more fault after step))

  -- it is the last one
  pub last_answered : (before : Fs F flash) (calls : List Call) (now : Fs F flash) (call : Call) (after : Fs F flash) (answer : Result (Unit {0}) Fault)
      → IsLeft before calls now (call ∷ []) → StepsBetween now call (replied empty answer) after → TakesAll before calls answer after
  last_answered before calls now call after answer left step = left.come answer after (takes_one now call answer after step)

  -- the next calls are done
  pub part_done : (before : Fs F flash) (calls : List Call) (now : Fs F flash) (first more : List Call) (between : Fs F flash)
      → IsLeft before calls now (first ++ more) → TakesAll now first (Ok tt) between → IsLeft before calls between more
  part_done before calls now first more between left done = record {
    come = λ result after takes. left.come result after (takes_both now first between more result after done takes);
  }

  -- one of them is refused
  pub part_refused : (before : Fs F flash) (calls : List Call) (now : Fs F flash) (first more : List Call) (after : Fs F flash) (fault : Fault) (result : Result (Unit {0}) Fault)
      → result ≡ Err fault → IsLeft before calls now (first ++ more) → TakesAll now first (Err fault) after → TakesAll before calls result after
  part_refused before calls now first more after fault result is left stops =
      subst (λ (r : Result (Unit {0}) Fault). TakesAll before calls r after) (sym is) (left.come (Err fault) after (stops_in now first more fault after stops))

  -- the next call of those of a list
  pub next_left : {A : Type 0} (before : Fs F flash) (calls : List Call) (f : A → Call) (xs : List A) (i : ℕ) (x : A) (now : Fs F flash)
      → i < length xs → x ≡ get_or xs i x → IsLeft before calls now (map f (drop i xs)) → IsLeft before calls now (f x ∷ map f (drop (i + 1) xs))
  next_left before calls f xs i x now below is left =
      subst (λ (more : List Call). IsLeft before calls now more) (first_left f xs i x below is) left

  -- the same bytes are written
  pub written_as : (now : Fs F flash) (path : List (List ℕ)) (bytes others : List ℕ) (answer : Result Reply Fault) (after : Fs F flash)
      → bytes ≡ others → StepsBetween now (Call.WriteFile path bytes) answer after → StepsBetween now (Call.WriteFile path others) answer after
  written_as now path bytes others answer after same step = subst (λ (b : List ℕ). StepsBetween now (Call.WriteFile path b) answer after) same step

  -- none of them is left
  pub none_left : {A : Type 0} (before : Fs F flash) (calls : List Call) (f : A → Call) (xs : List A) (i : ℕ) (now : Fs F flash)
      → length xs ≤ i → IsLeft before calls now (map f (drop i xs)) → TakesAll before calls (Ok tt) now
  none_left {A} before calls f xs i now over left = left.come (Ok tt) now
      (subst (λ (more : List A). TakesAll now (map f more) (Ok tt) now) (sym (drop_all i xs over)) (refl, refl))
