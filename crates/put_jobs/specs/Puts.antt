-- Files of the host that are put into an image, all in one change group.
use Rattle.std.specs.Prelude.{◌≡◌, ◌⊎◌, ℕ, Bool, true, false, if◌then◌else◌, Option, Some, None, Ok, Err, IfSome, List, [], ◌∷◌, is_some, ◌++◌, Contains, ◌&&◌, ◌||◌}
use Rattle.fs_types.specs.Names.{Path}
use Rattle.flash_simulation.specs.Simulation.{device_of}
use Rattle.flash_simulation.specs.declared.sim_flash.SimFlash.{SimFlash}
use Rattle.image_jobs.specs.Failures.{of_system, of_refusal}
use Rattle.host_interface.specs.Files.{Held, Readings, AreBytesRead}
use Rattle.script_runs.specs.Scripts.{IsUnmounted}
use Rattle.host_interface.specs.Sources.{Found}
use Rattle.put_jobs.specs.Places.{put_place, source_fault, IsMisplaced}
use Rattle.image_jobs.specs.declared.failure.Failure.{Failure}
use Rattle.std.specs.List.{flat_map}
use Rattle.std.specs.Option.{option_and_then}
use Rattle.history_machine.specs.History.{due_root}
use Rattle.fs_types.specs.declared.call.Call.{Call}
use Rattle.fs_types.specs.declared.call.Reply.{Reply}
use Rattle.fs_types.specs.declared.call.Stat.{Stat}
use Rattle.fs_types.specs.declared.event.Answer.{Answer}
use Rattle.fs_types.specs.declared.event.Event.{Event}
use Rattle.fs_types.specs.declared.fault.Fault.{Fault}
use Rattle.system.specs.Rooms.{no_limit}
use Rattle.system.specs.declared.systems.System.{System}
use Rattle.undofs.specs.Runs.{World, Run}
use Rattle.undofs.specs.Sessions.{Session}
use Rattle.script_runs.specs.declared.scripts.Refusal.{Refusal}
use Rattle.image_jobs.specs.declared.source_fault.SourceFault.{SourceFault}
use Rattle.host_interface.specs.declared.source.SourceKind.{SourceKind}
use Rattle.put_lots.specs.Lots.{lots_of}
use Rattle.put_lots.specs.Things.{thing_events}
use Rattle.put_lots.specs.declared.thing.Thing.{Thing}
use Rattle.image_jobs.specs.PathWords.{path_spelled}

-- things are put in one change group
abbrev pub group_start : List Event
group_start = Event.Call Call.Begin ∷ []

-- the events that put things: those that may go together are put by one call
abbrev pub lot_events : List Thing → List Event
lot_events things = flat_map thing_events (lots_of things)

-- things are put after what is removed first
abbrev pub put_events : List Event → List Thing → List Event
put_events removed things = removed ++ lot_events things

-- whether a version is due in the group that is open, if one is
abbrev pub is_due : Option System → Bool
is_due system = is_some (option_and_then (λ s. due_root s.state.group) system)

-- the group is ended, and synced where a version is due
abbrev pub group_end : Bool → List Event
group_end true = Event.Call Call.End ∷ Event.Call Call.Sync ∷ []
group_end false = Event.Call Call.End ∷ []

-- a trim: all that is kept is marked, and then each data block is erased that is free and not blank
abbrev pub mark_all : Event
mark_all = Event.ReclaimStep no_limit

abbrev pub clean_all : Event
clean_all = Event.CleanStep no_limit

abbrev pub makes_directory : Call → Bool
makes_directory (Call.Mkdir path) = true
makes_directory _ = false

abbrev pub is_mkdir : Event → Bool
is_mkdir (Event.Call call) = makes_directory call
is_mkdir _ = false

-- the kinds of a plain file and of a link
abbrev pub is_file : SourceKind → Bool
is_file (SourceKind.File length) = true
is_file _ = false

abbrev pub is_link : SourceKind → Bool
is_link SourceKind.Link = true
is_link _ = false

-- how an answer ends a put, if it does: an event is refused, but a directory that is to be made may be there already; or a file
-- stands where a directory has to be
abbrev pub refused_by : Fault → Bool → Option Refusal
refused_by Fault.Exists is_made = if is_made then None else Some (Refusal.Fault Fault.Exists)
refused_by fault is_made = Some (Refusal.Fault fault)

abbrev pub stop_of_reply : Reply → Option Refusal
stop_of_reply (Reply.Stat (Stat.File bytes)) = Some (Refusal.Fault Fault.Exists)
stop_of_reply _ = None

abbrev pub stop_of : Event → Answer → Option Refusal
stop_of event (Answer.Refused fault) = refused_by fault (is_mkdir event)
stop_of event (Answer.Done reply) = stop_of_reply reply
stop_of event Answer.Unmounted = Some Refusal.Unmounted
stop_of event Answer.Mounted = None

-- none of the answers ends a put; or the last one does, and no other
abbrev pub GoOn : List Event → List Answer → Type 0
GoOn [] [] = Unit {0}
GoOn (event ∷ events) (answer ∷ answers) = (stop_of event answer ≡ None) × GoOn events answers
GoOn _ _ = ⊥

abbrev pub StopLast : List Event → List Answer → Refusal → Type 0
StopLast (event ∷ []) (answer ∷ []) refusal = stop_of event answer ≡ Some refusal
StopLast (event ∷ next ∷ events) (answer ∷ answers) refusal = (stop_of event answer ≡ None) × StopLast (next ∷ events) answers refusal
StopLast _ _ refusal = ⊥

-- a thing is what stands at a name of the host, at its place below a path: a file has the bytes that are read of it
abbrev pub IsThingBy : Readings → SourceKind → Path → List ℕ → Thing → Type 0
IsThingBy readings SourceKind.Folder path name thing = thing ≡ Thing.Directory path
IsThingBy readings (SourceKind.File length) path name thing = (bytes : List ℕ) × (thing ≡ Thing.File path bytes) × AreBytesRead (readings.held name) bytes × readings.gives name bytes
IsThingBy readings _ path name thing = ⊥

abbrev pub IsThing : Readings → Path → Found → Thing → Type 0
IsThing readings base found thing = (source_fault base found ≡ None) × IsThingBy readings found.kind (put_place base found) found.name thing

abbrev pub AreThings : Readings → Path → List Found → List Thing → Type 0
AreThings readings base [] [] = Unit {0}
AreThings readings base (found ∷ all) (thing ∷ things) = IsThing readings base found thing × AreThings readings base all things
AreThings readings base _ _ = ⊥

-- what is mounted on a flash carries out the events of a group, and no answer ends the put; in this world a version is due or not
pub record IsGrouped (start : SimFlash) (events : List Event) (w : World) : Type 0 where
  pub answers : List Answer
  pub run : Session (device_of start) (group_start ++ events) (Answer.Mounted ∷ answers) w
  pub goes : GoOn (group_start ++ events) answers

-- where a version was made a trim follows, whatever it is answered; else nothing
abbrev pub Trims : Bool → World → World → Type 0
Trims true w v = (answers : List Answer) × Run w (mark_all ∷ clean_all ∷ []) answers v
Trims false w v = v ≡ w

-- it carries out events in one change group, and no answer ends the put
abbrev pub Carries : SimFlash → List Event → SimFlash → Type 0
Carries start events end = (w : World) × (v : World) × (left : World) × (answers : List Answer) × IsGrouped start events w × Run w (group_end (is_due w.system)) answers v
    × GoOn (group_end (is_due w.system)) answers × Trims (is_due w.system) v left × (left.device ≡ device_of end)

-- it carries out the first events of the group, and the answer to the last of them ends the put
abbrev pub StopsWithin : SimFlash → List Event → Refusal → Type 0
StopsWithin start events refusal = (made : List Event) × (rest : List Event) × (answers : List Answer) × (v : World) × (group_start ++ events ≡ made ++ rest)
    × Session (device_of start) made (Answer.Mounted ∷ answers) v × StopLast made answers refusal

-- or it carries out all of them, and the end of the group is refused, or its sync
abbrev pub StopsAtEnd : SimFlash → List Event → Refusal → Type 0
StopsAtEnd start events refusal = (w : World) × (v : World) × (made : List Event) × (rest : List Event) × (answers : List Answer) × IsGrouped start events w
    × (group_end (is_due w.system) ≡ made ++ rest) × Run w made answers v × StopLast made answers refusal

abbrev pub Breaks : SimFlash → List Event → Refusal → Type 0
Breaks start events refusal = StopsWithin start events refusal ⊎ StopsAtEnd start events refusal

-- why a source is not put: it has no place, or its file is not read; or for want of memory
abbrev pub IsUnput : Held → Path → Found → Failure → Type 0
IsUnput held base found Failure.Memory = Unit {0}
IsUnput held base found (Failure.Source fault) = (source_fault base found ≡ Some fault) ⊎ ((fault ≡ SourceFault.Unreadable) × (held found.name ≡ None))
IsUnput held base found _ = ⊥

-- one of the sources has no place, or the image's own name
abbrev pub PlaceCause : List ℕ → Path → List Found → Failure → Type 0
PlaceCause image base all failure = (found : Found) × Contains all found × IsMisplaced image base found failure

-- one of them is not put
abbrev pub SourceCause : Held → Path → List Found → Failure → Type 0
SourceCause held base all failure = (found : Found) × Contains all found × IsUnput held base found failure

-- a flash is this one
abbrev pub Is : SimFlash → SimFlash → Type 0
Is flash start = start ≡ flash

-- there is no such cause
abbrev pub IsNever : Failure → Type 0
IsNever failure = ⊥

-- all sources are put below a path, after what is removed first, on a flash that is found so, which gives the flash as it is left
abbrev pub PutsBy : (SimFlash → Type 0) → List Event → Readings → Path → List Found → SimFlash → SimFlash → Type 0
PutsBy IsThere removed readings base all start end = (things : List Thing) × IsThere start × AreThings readings base all things × Carries start (put_events removed things) end

-- the first of them are put, and then an event is refused
abbrev pub StopsBy : (SimFlash → Type 0) → List Event → Readings → Path → List Found → Failure → Type 0
StopsBy IsThere removed readings base all failure = (start : SimFlash) × (first : List Found) × (later : List Found) × (things : List Thing) × (refusal : Refusal)
    × IsThere start × (all ≡ first ++ later) × AreThings readings base first things × Breaks start (put_events removed things) refusal × (failure ≡ of_refusal refusal)

-- a flash that is found so is not mounted
abbrev pub UnmountedBy : (SimFlash → Type 0) → Failure → Type 0
UnmountedBy IsThere failure = (start : SimFlash) × (end : SimFlash) × (fault : Fault) × IsThere start × IsUnmounted start end fault × (failure ≡ of_system fault)

-- why they are not put: there is no flash for its cause, or memory was wanted; one of them is not put; no system is mounted; or an
-- event is refused
abbrev pub PutCause : (SimFlash → Type 0) → (Failure → Type 0) → List Event → Readings → Path → List Found → Failure → Type 0
PutCause IsThere Cause removed readings base all failure =
    Cause failure ⊎ ((failure ≡ Failure.Memory) ⊎ (SourceCause readings.held base all failure ⊎ (UnmountedBy IsThere failure ⊎ StopsBy IsThere removed readings base all failure)))

-- a word of the program spells this path, and all of this stands at a name of the host, where that is known
pub record IsAsked (gathered : Option (List Found)) (word : List ℕ) (base : Path) (all : List Found) : Type 0 where
  pub spelled : path_spelled word ≡ Ok base
  pub known : IfSome gathered (λ found. all ≡ found)

-- a folder is wanted, and what stands at the name is a plain file or a link
abbrev pub begins_with_other : List Found → Bool
begins_with_other [] = false
begins_with_other (found ∷ all) = is_file found.kind || is_link found.kind

abbrev pub is_no_folder : Bool → List Found → Bool
is_no_folder is_wanted all = is_wanted && begins_with_other all

-- what is left out, where links are
abbrev pub is_left_out : Bool → Found → Bool
is_left_out skips found = skips && is_link found.kind

abbrev pub left_in : Bool → List Found → List Found
left_in skips all = flat_map (λ found. if is_left_out skips found then [] else found ∷ []) all

-- what is refused of what stands at a name of the host: it is no folder where one is wanted, or a source is not to be put
abbrev pub FoundCause : Bool → Bool → List ℕ → Path → List Found → Failure → Type 0
FoundCause is_wanted skips image base all failure =
    ((failure ≡ Failure.NoFolder) × (is_no_folder is_wanted all ≡ true)) ⊎ PlaceCause image base (left_in skips all) failure

-- why nothing is asked for that is to be put: memory was wanted, the word spells no path, or what stands there is refused
abbrev pub GatherCause : Bool → Bool → List ℕ → Option (List Found) → List ℕ → Failure → Type 0
GatherCause is_wanted skips image gathered word failure =
    (failure ≡ Failure.Memory) ⊎ ((path_spelled word ≡ Err failure) ⊎ ((base : Path) × (all : List Found) × IsAsked gathered word base all × FoundCause is_wanted skips image base all failure))
