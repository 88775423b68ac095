-- What may be asked of a flash and of the system on it, beside events: what its history holds.
use Rattle.std.specs.Prelude.{ℕ, suc, Option, Ok, Err, List, [], ◌∷◌}
use Rattle.history_machine.specs.History.{Past}
use Rattle.plain_trees.specs.Trees.{Tree}
use Rattle.fs_types.specs.declared.call.Call.{Call}
use Rattle.fs_types.specs.declared.call.Reply.{Reply}
use Rattle.fs_types.specs.declared.event.Answer.{Answer}
use Rattle.fs_types.specs.declared.event.Event.{Event}
use Rattle.fs_types.specs.declared.fault.Fault.{Fault}
use Rattle.flash_model.specs.Device.{Device}
use Rattle.system.specs.HistorySpace.{ForgetsUntil}
use Rattle.system.specs.VersionSpace.{TellsHistorySpace}
use Rattle.system.specs.declared.systems.System.{System}
use Rattle.undofs.specs.Runs.{World, Run}
use Rattle.undofs.specs.Sessions.{IsIdle, Moves, Serves, Stands, world}
use Rattle.fs_types.specs.declared.ask.Ask.{Ask}
use Rattle.undofs.specs.declared.asks.Told.{Told}

-- this is told to what is asked, on any flash and on the system that is mounted on it, if one is
abbrev pub ServesAsk : Device → Option System → Ask → Told → Device → Option System → Type 0
ServesAsk d s (Ask.Event event) (Told.Answer answer) e t = Serves d s event answer e t
ServesAsk d s Ask.Space (Told.Space space) e t = Moves (λ old m. TellsHistorySpace old m (Ok space)) d s e t
ServesAsk d s Ask.Space (Told.Answer (Answer.Refused fault)) e t = Moves (λ old m. TellsHistorySpace old m (Err fault)) d s e t
ServesAsk d s Ask.Space (Told.Answer Answer.Unmounted) e t = IsIdle d s e t
ServesAsk d s (Ask.ForgetFree blocks) (Told.Forgot count) e t = Moves (λ old m. ForgetsUntil old m blocks (Ok count)) d s e t
ServesAsk d s (Ask.ForgetFree blocks) (Told.Answer (Answer.Refused fault)) e t = Moves (λ old m. ForgetsUntil old m blocks (Err fault)) d s e t
ServesAsk d s (Ask.ForgetFree blocks) (Told.Answer Answer.Unmounted) e t = IsIdle d s e t
ServesAsk d s _ _ e t = ⊥

-- the events that it comes to, with their answers: none, where nothing is done; a look at what history holds is as a call `df`, and
-- a call `forget` may come after it
pub data AskedAs : Ask → Told → List Event → List Answer → Type 0 where
  IsEvent : {event : Event} {answer : Answer} → AskedAs (Ask.Event event) (Told.Answer answer) (event ∷ []) (answer ∷ [])
  TellsNothing : {answer : Answer} → AskedAs Ask.Space (Told.Answer answer) [] []
  IsLook : {told : Told} {answer : Answer} → AskedAs Ask.Space told (Event.Call Call.Df ∷ []) (answer ∷ [])
  DoesNothing : {blocks : ℕ} {answer : Answer} → AskedAs (Ask.ForgetFree blocks) (Told.Answer answer) [] []
  FindsNone : {blocks : ℕ} {told answer : Answer} → AskedAs (Ask.ForgetFree blocks) (Told.Answer told) (Event.Call Call.Df ∷ []) (answer ∷ [])
  ForgetsNone : {blocks : ℕ} {answer : Answer} → AskedAs (Ask.ForgetFree blocks) (Told.Forgot 0) (Event.Call Call.Df ∷ []) (answer ∷ [])
  ForgetsSome : {blocks k : ℕ} {first : Answer} {reply : Reply}
      → AskedAs (Ask.ForgetFree blocks) (Told.Forgot (suc k)) (Event.Call Call.Df ∷ Event.Call (Call.Forget (suc k)) ∷ []) (first ∷ Answer.Done reply ∷ [])
  IsRefused : {blocks k : ℕ} {first : Answer} {fault : Fault}
      → AskedAs (Ask.ForgetFree blocks) (Told.Answer (Answer.Refused fault)) (Event.Call Call.Df ∷ Event.Call (Call.Forget (suc k)) ∷ []) (first ∷ Answer.Refused fault ∷ [])

-- what is asked, what is told to it, and the world that it leaves: that of a run of these events
pub record HappensAsk (w : World) (ask : Ask) (told : Told) (v : World) : Type 0 where
  pub serves : ServesAsk w.device w.system ask told v.device v.system
  pub events : List Event
  pub answers : List Answer
  pub asked : AskedAs ask told events answers
  pub run : Run w events answers v

-- what is asked leads on from each world that has this flash and system
abbrev pub AskLaw : Type 0
AskLaw = (d e : Device) (s t : Option System) (ask : Ask) (told : Told) (found : List (Past Tree)) → ServesAsk d s ask told e t → Stands (world d s found)
    → (more : List (Past Tree)) × HappensAsk (world d s found) ask told (world e t more) × Stands (world e t more)
