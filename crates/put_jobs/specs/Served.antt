-- Events of a put that are served one after the other, and how they end.
use Rattle.std.specs.Prelude.{◌≡◌, ℕ, Bool, true, false, Option, Some, None, Result, Ok, Err, List, [], ◌∷◌, ◌++◌}
use Rattle.fs_types.specs.declared.call.Call.{Call}
use Rattle.fs_types.specs.declared.call.Reply.{Reply}
use Rattle.fs_types.specs.declared.event.Answer.{Answer}
use Rattle.fs_types.specs.declared.event.Event.{Event}
use Rattle.flash_model.specs.Device.{Device}
use Rattle.flash_simulation.specs.Simulation.{device_of}
use Rattle.system.specs.declared.systems.System.{System}
use Rattle.undofs.specs.Sessions.{Serves}
use Rattle.image_jobs.specs.Failures.{of_refusal}
use Rattle.put_jobs.specs.Puts.{stop_of, group_end, mark_all, clean_all, is_due}
use Rattle.image_jobs.specs.declared.failure.Failure.{Failure}
use Rattle.put_jobs.specs.declared.putting.Put.{Put}
use Rattle.script_runs.specs.declared.scripts.Refusal.{Refusal}

-- a flash, and the system on it, where one is mounted
pub record Place : Type 0 where
  pub device : Device
  pub system : Option System

abbrev pub place : Put → Place
place put = record { device = device_of put.flash; system = put.system }

-- an event is served, and so answered
abbrev pub Turns : Place → Event → Answer → Place → Type 0
Turns p event answer q = Serves p.device p.system event answer q.device q.system

-- events are served in order, and no answer ends the put
abbrev pub ServesAll : Place → List Event → Place → Type 0
ServesAll p [] q = q ≡ p
ServesAll p (event ∷ events) q = (answer : Answer) × (between : Place) × Turns p event answer between × (stop_of event answer ≡ None) × ServesAll between events q

-- events are served in order, and the answer to one more ends the put
pub record Halts (p : Place) (events : List Event) (refusal : Refusal) (q : Place) : Type 0 where
  pub earlier : List Event
  pub last : Event
  pub answer : Answer
  pub between : Place
  pub are : events ≡ earlier ++ last ∷ []
  pub passes : ServesAll p earlier between
  pub turns : Turns between last answer q
  pub stops : stop_of last answer ≡ Some refusal

-- how events end that are served in order until an answer ends the put
abbrev pub ServesPut : Place → List Event → Result (Unit {0}) Refusal → Place → Type 0
ServesPut p events (Ok done) q = ServesAll p events q
ServesPut p events (Err refusal) q = (made : List Event) × (rest : List Event) × (events ≡ made ++ rest) × Halts p made refusal q

-- the answer to one of some events ends the put, for which that is the failure. What is left is given up
abbrev pub HaltsAmong : Place → List Event → Failure → Type 0
HaltsAmong p events failure = (made : List Event) × (rest : List Event) × (refusal : Refusal) × (at : Place)
    × (events ≡ made ++ rest) × Halts p made refusal at × (failure ≡ of_refusal refusal)

-- how events are served that put a thing: none ends the put, or the answer to one of them does
abbrev pub Asks : List Event → Place → Result (Unit {0}) Failure → Place → Type 0
Asks events p (Ok done) q = ServesAll p events q
Asks events p (Err failure) q = HaltsAmong p events failure

-- the group that is open is ended, and synced where a version is due in it
abbrev pub ClosesGroup : Place → Result (Unit {0}) Refusal → Place → Type 0
ClosesGroup p result q = ServesPut p (group_end (is_due p.system)) result q

-- a trim is served, whatever it is answered
pub record IsTrimmed (p q : Place) : Type 0 where
  pub marked : Answer
  pub cleaned : Answer
  pub between : Place
  pub marks : Turns p mark_all marked between
  pub cleans : Turns between clean_all cleaned q

-- where a version was made a trim follows; else nothing
abbrev pub IsTrimmedWhere : Bool → Place → Place → Type 0
IsTrimmedWhere true p q = IsTrimmed p q
IsTrimmedWhere false p q = q ≡ p

-- and then what is left is trimmed, where that made a version
abbrev pub EndsGroup : Place → Result (Unit {0}) Refusal → Place → Type 0
EndsGroup p (Ok done) q = (closed : Place) × ClosesGroup p (Ok tt) closed × IsTrimmedWhere (is_due p.system) closed q
EndsGroup p (Err refusal) q = ClosesGroup p (Err refusal) q

-- so many blocks are free as `df` tells once the change group that is open is given up, if one is
abbrev pub FreesTold : Place → Place → ℕ → Type 0
FreesTold p q free = (answer : Answer) × (between : Place) × (blocks : ℕ) × (bad : ℕ) × (anchors : ℕ) × Turns p (Event.Call Call.Abandon) answer between
    × Turns between (Event.Call Call.Df) (Answer.Done (Reply.Df blocks bad free anchors)) q
