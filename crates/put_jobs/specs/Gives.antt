-- What is put, one thing after the other: the events that are given of it, and what comes of them.
use Rattle.std.specs.Prelude.{◌≡◌, ◌⊎◌, ◌++◌, ℕ, Option, Some, None, Result, Ok, Err, List, []}
use Rattle.std.specs.List.{flat_map}
use Rattle.fs_types.specs.Names.{Path}
use Rattle.fs_types.specs.declared.event.Event.{Event}
use Rattle.flash_simulation.specs.Simulation.{device_of}
use Rattle.flash_simulation.specs.declared.sim_flash.SimFlash.{SimFlash}
use Rattle.host_interface.specs.Files.{Held, Readings, AreBytesRead}
use Rattle.host_interface.specs.Sources.{Found}
use Rattle.flash_simulation.specs.Images.{image_of}
use Rattle.image_jobs.specs.Failures.{of_refusal}
use Rattle.image_jobs.specs.Images.{DecodeCause, IsUnclaimed, IsUnread, SavesChange, ChangeUnsaved}
use Rattle.image_jobs.specs.declared.failure.Failure.{Failure}
use Rattle.script_runs.specs.Flashes.{IsDecoded}
use Rattle.script_runs.specs.declared.scripts.Refusal.{Refusal}
use Rattle.put_lots.specs.Lots.{lots_from}
use Rattle.put_lots.specs.Things.{thing_events}
use Rattle.put_lots.specs.declared.thing.Thing.{Thing}
use Rattle.put_jobs.specs.Puts.{group_start, AreThings, SourceCause, Is, UnmountedBy, Carries, StopsWithin, StopsAtEnd}
use Rattle.put_jobs.specs.Served.{Place, ServesAll, EndsGroup, HaltsAmong}

-- how it ends that events are given: all of them are; or what comes next is not had; or the rest is left
pub data Ending : Type 0 where
  whole : Ending
  broken : Failure → Ending
  begun : Ending

-- what comes next is given, and may be the last of it; or nothing is left
abbrev pub GivesNext : (List Event → Ending → Type 0) → (List Event → Ending → Type 0) → Option (List Event) → Type 0
GivesNext Old New None = Old [] whole
GivesNext Old New (Some events) = ((more : List Event) (end : Ending) → New more end → Old (events ++ more) end) × Old events begun

-- events that are known are given: but for want of memory all of them are
abbrev pub GivesKnown : List Event → List Event → Ending → Type 0
GivesKnown all events whole = events ≡ all
GivesKnown all events (broken failure) = failure ≡ Failure.Memory
GivesKnown all events begun = (rest : List Event) × (all ≡ events ++ rest)

-- sources are given below a path, after what waits: a source is not had, or memory was wanted, or all of them are, or the first
abbrev pub GivesSources : Readings → Path → List Found → Option Thing → List Event → Ending → Type 0
GivesSources readings base all last events whole = (things : List Thing) × AreThings readings base all things × (events ≡ flat_map thing_events (lots_from last things))
GivesSources readings base all last events (broken failure) = (failure ≡ Failure.Memory) ⊎ SourceCause readings.held base all failure
GivesSources readings base all last events begun = (first : List Found) × (later : List Found) × (things : List Thing) × (rest : List Event)
    × (all ≡ first ++ later) × AreThings readings base first things × (flat_map thing_events (lots_from last things) ≡ events ++ rest)

-- how what is given is served after these events: all of it is; or what comes next is not had, or an answer ends the put
abbrev pub PutsAfter : List Event → (List Event → Ending → Type 0) → Place → Result (Unit {0}) Failure → Place → Type 0
PutsAfter before Gives p (Ok done) q = (events : List Event) × Gives events whole × ServesAll p (before ++ events) q
PutsAfter before Gives p (Err failure) q = ((events : List Event) × Gives events (broken failure))
    ⊎ ((events : List Event) × Gives events begun × HaltsAmong p (before ++ events) failure)

-- how it is in one change group that begins with what is removed first, and which is ended
abbrev pub PutsGroup : List Event → (List Event → Ending → Type 0) → Place → Result (Unit {0}) Failure → Place → Type 0
PutsGroup removed Gives p (Ok done) q = (inside : Place) × PutsAfter (group_start ++ removed) Gives p (Ok tt) inside × EndsGroup inside (Ok tt) q
PutsGroup removed Gives p (Err failure) q = PutsAfter (group_start ++ removed) Gives p (Err failure) q
    ⊎ ((inside : Place) × (refusal : Refusal) × PutsAfter (group_start ++ removed) Gives p (Ok tt) inside × EndsGroup inside (Err refusal) q × (failure ≡ of_refusal refusal))

-- all that is given is carried out on a flash, after what is removed first, which gives the flash as it is left
abbrev pub PutsOn : List Event → (List Event → Ending → Type 0) → SimFlash → SimFlash → Type 0
PutsOn removed Gives start end = (events : List Event) × Gives events whole × Carries start (removed ++ events) end

-- an answer ends the put among the first events that are given, or at the end of the group in which all of them are
abbrev pub StopsOn : List Event → (List Event → Ending → Type 0) → SimFlash → Failure → Type 0
StopsOn removed Gives start failure = (events : List Event) × (refusal : Refusal)
    × ((Gives events begun × StopsWithin start (removed ++ events) refusal) ⊎ (Gives events whole × StopsAtEnd start (removed ++ events) refusal))
    × (failure ≡ of_refusal refusal)

-- why it is not: what comes next is not had, no system is mounted, or an answer ends the put
abbrev pub UnputOn : List Event → (List Event → Ending → Type 0) → SimFlash → Failure → Type 0
UnputOn removed Gives start failure = ((events : List Event) × Gives events (broken failure)) ⊎ (UnmountedBy (Is start) failure ⊎ StopsOn removed Gives start failure)

-- it is carried out on the flash that an image spells
abbrev pub PutsIn : (List ℕ → List Event → Type 0) → (List Event → Ending → Type 0) → List ℕ → SimFlash → Type 0
PutsIn Removes Gives image end = (start : SimFlash) × (removed : List Event) × IsDecoded image start × Removes image removed × PutsOn removed Gives start end

-- why it is not: it is not known what is removed first, or it is and there is no flash for its cause, or it is not put on it
abbrev pub UnputIn : (List ℕ → List Event → Type 0) → (List ℕ → Failure → Type 0) → (List Event → Ending → Type 0) → List ℕ → Failure → Type 0
UnputIn Removes Unlisted Gives image failure = Unlisted image failure
    ⊎ ((removed : List Event) × Removes image removed × (DecodeCause image failure ⊎ ((start : SimFlash) × IsDecoded image start × UnputOn removed Gives start failure)))

-- files of which a name is claimed, which changes none: its file has these bytes
pub record IsTaken {S : Type 0} (Claims : S → List ℕ → Type 0) (Holds : S → Held) (Reads : S → List ℕ → List ℕ → Type 0) (name : List ℕ) (held : Held) (files : S) (image : List ℕ) : Type 0 where
  pub claimed : Claims files name
  pub same : Holds files ≡ held
  pub front : AreBytesRead (Holds files name) image
  pub now : Reads files name image

-- things are put into an image that is taken, which is written then. Else no file changes, or the image that is left is not written,
-- or not for good
abbrev pub ThingsEnd : {S : Type 0} → (S → List ℕ → Type 0) → (S → Held) → (S → List ℕ → List ℕ → Type 0) → List ℕ → (List ℕ → List Event → Type 0) → (List ℕ → Failure → Type 0)
    → (S → List Event → Ending → Type 0) → Held → Held → Result (Unit {0}) Failure → Type 0
ThingsEnd {S} Claims Holds Reads name Removes Unlisted Gives held saved (Ok done) = (files : S) × (image : List ℕ) × (end : SimFlash) × IsTaken Claims Holds Reads name held files image
    × PutsIn Removes (Gives files) image end × SavesChange name (Holds files) saved image (image_of (device_of end))
ThingsEnd {S} Claims Holds Reads name Removes Unlisted Gives held saved (Err failure) =
    ((files : S) × (Holds files ≡ held) × (saved ≡ held) × (IsUnclaimed failure ⊎ IsUnread (Holds files name) failure))
    ⊎ (((files : S) × (image : List ℕ) × IsTaken Claims Holds Reads name held files image × UnputIn Removes Unlisted (Gives files) image failure × (saved ≡ held))
    ⊎ ((files : S) × (image : List ℕ) × (end : SimFlash) × IsTaken Claims Holds Reads name held files image
    × PutsIn Removes (Gives files) image end × ChangeUnsaved name (Holds files) saved image (image_of (device_of end)) failure))
