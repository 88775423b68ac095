-- Events of a put, one after the other, and what comes of them.
use Rattle.std.proofs.Common.{◌≡◌, ◌<◌, ◌+◌, ◌≤◌, ℕ, List, [], ◌∷◌, ◌++◌, take, drop, map, length, get_or, Option, Some, None, Result, Ok, Err, Bool, true, false, IfSome, IfErr, OnOk, ◌⊎◌, inl, inr, refl, sym, ap, ◌∙◌, subst, append_assoc, take_all, take-append-drop}
use Rattle.std.specs.List.{Contains}
use Rattle.std.proofs.lemmas.List.{take_more, map_more, map-append}
use Rattle.std.proofs.lemmas.List.Elements.{All-push, Contains-push, Contains-append_left}
use Rattle.history_machine.specs.History.{Past}
use Rattle.plain_trees.specs.Trees.{Tree}
use Rattle.fs_types.specs.Names.{Path, path_refusal}
use Rattle.fs_types.specs.declared.event.Answer.{Answer}
use Rattle.fs_types.specs.declared.event.Event.{Event}
use Rattle.flash_model.specs.Reading.{OnlyReads}
use Rattle.flash_simulation.specs.Simulation.{device_of}
use Rattle.flash_simulation.specs.declared.sim_flash.SimFlash.{SimFlash}
use Rattle.flash_simulation.specs.Images.{image_of}
use Rattle.system.specs.Mounts.{IsMountOf}
use Rattle.system.specs.Systems.{IsSystem}
use Rattle.system.specs.declared.systems.System.{System}
use Rattle.undofs.specs.Runs.{World, Happens, Run}
use Rattle.undofs.specs.Sessions.{Stands, world}
use Rattle.undofs.proofs.SessionSteps.{mount_begins, serve_law}
use Rattle.host_interface.specs.Files.{Held, Readings, readings_of, AreBytesRead, takes_away}
use Rattle.put_jobs.specs.Puts.{group_start, group_end, mark_all, clean_all, Trims, is_due, stop_of, GoOn, StopLast, IsThingBy, IsThing, Carries, StopsWithin, StopsAtEnd, IsUnput, PutsBy, PutCause, FoundCause, GatherCause}
use Rattle.image_jobs.specs.PathWords.{SpellingCause, path_spelled}
use Rattle.put_jobs.specs.Served.{Place, place, Turns, ServesAll, Halts, ServesPut, ClosesGroup, IsTrimmedWhere, EndsGroup}
use Rattle.host_interface.specs.Sources.{Found, source_found}
use Rattle.put_jobs.specs.Places.{put_place, way_fault, kind_fault, either_fault, source_fault, Unplaced, AreOthers}
use Rattle.script_runs.specs.Flashes.{IsDecoded}
use Rattle.image_jobs.specs.Images.{DecodeCause, IsUnclaimed, IsUnread, IsSpelledFlash, LoadCause, SavesChange, ChangeUnsaved}
use Rattle.put_lots.specs.declared.kept.Kept.{Kept}
use Rattle.put_jobs.specs.Mirrors.{AreRemoved, UnlistedBy, PutsOver, OverCause}
use Rattle.put_jobs.specs.Putting.{SourcesEnd}
use Rattle.image_jobs.specs.declared.failure.Failure.{Failure}
use Rattle.put_jobs.specs.declared.putting.Put.{Put}
use Rattle.script_runs.specs.declared.scripts.Refusal.{Refusal}
use Rattle.host_interface.specs.declared.source.Source.{Source}
use Rattle.host_interface.specs.declared.source.SourceKind.{SourceKind}
use Rattle.put_lots.specs.declared.thing.Thing.{Thing}
use Rattle.image_jobs.proofs.ImageLemmas.{loaded_front, cause_front, cause_unread}
use Rattle.put_jobs.proofs.FlashLemmas.{puts_as, cause_as, puts_given, cause_given}

-- ---- events

pub passes_more : (p q r : Place) (first second : List Event) → ServesAll p first q → ServesAll q second r → ServesAll p (first ++ second) r
passes_more p q r [] second h rest = subst (λ (x : Place). ServesAll x second r) h rest
passes_more p q r (event ∷ events) second (answer, between, turns, goes, passes) rest = (answer, between, turns, goes, passes_more between q r events second passes rest)

pub halts_more : (p q r : Place) (first made : List Event) (refusal : Refusal) → ServesAll p first q → Halts q made refusal r → Halts p (first ++ made) refusal r
halts_more p q r first made refusal passes h = record {
  earlier = first ++ h.earlier;
  last = h.last;
  answer = h.answer;
  between = h.between;
  are = ap (λ (x : List Event). first ++ x) h.are ∙ sym (append_assoc first h.earlier (h.last ∷ []));
  passes = passes_more p q h.between first h.earlier passes h.passes;
  turns = h.turns;
  stops = h.stops;
}

-- the next of some events is served
pub asks_next : (events : List Event) (i : ℕ) (event : Event) (p q r : Place) (answer : Answer) → i < length events → event ≡ get_or events i event
    → ServesAll p (take i events) q → Turns q event answer r → stop_of event answer ≡ None → ServesAll p (take (i + 1) events) r
asks_next events i event p q r answer below is passes turns goes =
    let one : ServesAll q (event ∷ []) r = (answer, r, turns, goes, refl) in
    let all : ServesAll p (take i events ++ event ∷ []) r = passes_more p q r (take i events) (event ∷ []) passes one in
    subst (λ (x : List Event). ServesAll p x r) (sym (take_more events i event below ∙ ap (λ (x : Event). take i events ++ x ∷ []) (sym is))) all

pub asks_all : (events : List Event) (i : ℕ) (p q : Place) → length events ≤ i → ServesAll p (take i events) q → ServesAll p events q
asks_all events i p q over passes = subst (λ (x : List Event). ServesAll p x q) (take_all i events over) passes

pub asks_halted : (events : List Event) (i : ℕ) (event : Event) (p q r : Place) (answer : Answer) (refusal : Refusal) → i < length events → event ≡ get_or events i event
    → ServesAll p (take i events) q → Turns q event answer r → stop_of event answer ≡ Some refusal → ServesPut p events (Err refusal) r
asks_halted events i event p q r answer refusal below is passes turns stops =
    let made : List Event = take i events ++ event ∷ [] in
    let is_made : take (i + 1) events ≡ made = take_more events i event below ∙ ap (λ (x : Event). take i events ++ x ∷ []) (sym is) in (
      made,
      drop (i + 1) events,
      sym (take-append-drop (i + 1) events) ∙ ap (λ (x : List Event). x ++ drop (i + 1) events) is_made,
      record { earlier = take i events; last = event; answer = answer; between = q; are = refl; passes = passes; turns = turns; stops = stops },
    )

-- ---- sources

found_more : (sources : List Source) (i : ℕ) (source : Source) → i < length sources → source ≡ get_or sources i source
    → map source_found (take (i + 1) sources) ≡ map source_found (take i sources) ++ source_found source ∷ []
found_more sources i source below is = map_more source_found sources i source below ∙ ap (λ (x : Source). map source_found (take i sources) ++ source_found x ∷ []) (sym is)

-- the sources up to one, and those after it
parted : (sources : List Source) (i : ℕ) (source : Source) → i < length sources → source ≡ get_or sources i source
    → map source_found sources ≡ (map source_found (take i sources) ++ source_found source ∷ []) ++ map source_found (drop (i + 1) sources)
parted sources i source below is =
    ap (map source_found) (sym (take-append-drop (i + 1) sources)) ∙ map-append source_found (take (i + 1) sources) (drop (i + 1) sources)
    ∙ ap (λ (x : List Found). x ++ map source_found (drop (i + 1) sources)) (found_more sources i source below is)

pub among : (sources : List Source) (i : ℕ) (source : Source) → i < length sources → source ≡ get_or sources i source → Contains (map source_found sources) (source_found source)
among sources i source below is =
    let first : List Found = map source_found (take i sources) in
    subst (λ (x : List Found). Contains x (source_found source)) (sym (parted sources i source below is))
    (Contains-append_left (first ++ source_found source ∷ []) (map source_found (drop (i + 1) sources)) (source_found source) (Contains-push first (source_found source)))

-- ---- the change group

-- it begins, and events are served in it
pub served_in : (p mid q : Place) (events : List Event) (result : Result (Unit {0}) Refusal) → ServesAll p group_start mid → ServesPut mid events result q → ServesPut p (group_start ++ events) result q
served_in p mid q events (Ok done) begun rest = passes_more p mid q group_start events begun rest
served_in p mid q events (Err refusal) begun (made, rest, is, halts) =
    (group_start ++ made, rest, ap (λ (x : List Event). group_start ++ x) is ∙ sym (append_assoc group_start made rest), halts_more p mid q group_start made refusal begun halts)

-- it does not
pub served_without : (p q : Place) (events : List Event) (refusal : Refusal) → ServesPut p group_start (Err refusal) q → ServesPut p (group_start ++ events) (Err refusal) q
served_without p q events refusal (made, rest, is, halts) = (made, rest ++ events, ap (λ (x : List Event). x ++ events) is ∙ append_assoc made rest events, halts)

-- it is ended, and then a trim follows, or nothing
pub ended_trimmed : (p closed q : Place) (due : Bool) → due ≡ is_due p.system → ClosesGroup p (Ok tt) closed → IsTrimmedWhere due closed q → EndsGroup p (Ok tt) q
ended_trimmed p closed q due is closes trimmed = (closed, closes, subst (λ (x : Bool). IsTrimmedWhere x closed q) is trimmed)

-- ---- sessions

passes_run : (p q : Place) (events : List Event) → ServesAll p events q → (found : List (Past Tree)) → Stands (world p.device p.system found)
    → (more : List (Past Tree)) × (answers : List Answer) × Run (world p.device p.system found) events answers (world q.device q.system more) × GoOn events answers × Stands (world q.device q.system more)
passes_run p q [] h found stands =
    let same : world q.device q.system found ≡ world p.device p.system found = ap (λ (x : Place). world x.device x.system found) h in
    (found, [], same, tt, subst Stands (sym same) stands)
passes_run p q (event ∷ events) (answer, between, turns, goes, rest) found stands =
    let one = serve_law p.device between.device p.system between.system event answer found turns stands in
    let all = passes_run between q events rest one.0 one.2 in
    (all.0, answer ∷ all.1, (world between.device between.system one.0, one.1, all.2), (goes, all.3), all.4)

-- a trim follows, or nothing
trims_run : (due : Bool) (p q : Place) → IsTrimmedWhere due p q → (found : List (Past Tree)) → Stands (world p.device p.system found)
    → (more : List (Past Tree)) × Trims due (world p.device p.system found) (world q.device q.system more)
trims_run true p q trimmed found stands =
    let between = trimmed.between in
    let one = serve_law p.device between.device p.system between.system mark_all trimmed.marked found trimmed.marks stands in
    let two = serve_law between.device q.device between.system q.system clean_all trimmed.cleaned one.0 trimmed.cleans one.2 in
    (two.0, (trimmed.marked ∷ trimmed.cleaned ∷ [], (world between.device between.system one.0, one.1, (world q.device q.system two.0, two.1, refl))))
trims_run false p q same found stands = (found, ap (λ (x : Place). world x.device x.system found) same)

run_more : (u v w : World) (events : List Event) (answers : List Answer) (event : Event) (answer : Answer) → Run u events answers v → Happens v event answer w
    → Run u (events ++ event ∷ []) (answers ++ answer ∷ []) w
run_more u v w [] [] event answer h one = (w, subst (λ (x : World). Happens x event answer w) h one, refl)
run_more u v w [] (other ∷ answers) event answer h one = absurd h
run_more u v w (other ∷ events) [] event answer h one = absurd h
run_more u v w (e ∷ events) (a ∷ answers) event answer h one = (h.0, h.1, run_more h.0 v w events answers event answer h.2 one)

stop_last : (events : List Event) (answers : List Answer) (event : Event) (answer : Answer) (refusal : Refusal) → GoOn events answers → stop_of event answer ≡ Some refusal
    → StopLast (events ++ event ∷ []) (answers ++ answer ∷ []) refusal
stop_last [] [] event answer refusal h is = is
stop_last [] (a ∷ answers) event answer refusal h is = absurd h
stop_last (e ∷ events) [] event answer refusal h is = absurd h
stop_last (e ∷ []) (a ∷ []) event answer refusal h is = (h.0, is)
stop_last (e ∷ []) (a ∷ other ∷ answers) event answer refusal h is = absurd h.1
stop_last (e ∷ next ∷ events) (a ∷ answers) event answer refusal h is = (h.0, stop_last (next ∷ events) answers event answer refusal h.1 is)

pub put_session : (start mid : SimFlash) (m : System) (inside : Place) (end : Put) (events : List Event) → OnlyReads (device_of start) (device_of mid) → IsMountOf (device_of start) (device_of mid) m
    → IsSystem (device_of mid) m → ServesAll (record { device = device_of mid; system = Some m }) (group_start ++ events) inside → EndsGroup inside (Ok tt) (place end) → Carries start events end.flash
put_session start mid m inside end events reads begins system passes (closed, ended, trimmed) =
    let first = mount_begins (device_of start) (device_of mid) m reads begins system in
    let all = passes_run (record { device = device_of mid; system = Some m }) inside (group_start ++ events) passes (first.0 ∷ []) first.3 in
    let last = passes_run inside closed (group_end (is_due inside.system)) ended all.0 all.4 in
    let left = trims_run (is_due inside.system) closed (place end) trimmed last.0 last.4 in
    let u : World = world (device_of mid) (Some m) (first.0 ∷ []) in
    let w : World = world inside.device inside.system all.0 in (
      w,
      world closed.device closed.system last.0,
      world (device_of end.flash) end.system left.0,
      last.1,
      record { answers = all.1; run = (first.0, u, first.1, first.2, all.2); goes = all.3 },
      last.2,
      last.3,
      left.1,
      refl,
    )

-- from a world on, the first of some events are carried out, and the answer to the last of them ends the put
halted_run : (p q : Place) (made : List Event) (refusal : Refusal) (found : List (Past Tree)) → Stands (world p.device p.system found) → Halts p made refusal q
    → (w : World) × (answers : List Answer) × Run (world p.device p.system found) made answers w × StopLast made answers refusal
halted_run p q made refusal found stands h =
    let all = passes_run p h.between h.earlier h.passes found stands in
    let one = serve_law h.between.device q.device h.between.system q.system h.last h.answer all.0 h.turns all.4 in
    let u : World = world p.device p.system found in
    let v : World = world h.between.device h.between.system all.0 in
    let w : World = world q.device q.system one.0 in
    let answers : List Answer = all.1 ++ h.answer ∷ [] in
    let run : Run u made answers w = subst (λ (x : List Event). Run u x answers w) (sym h.are) (run_more u v w h.earlier all.1 h.last h.answer all.2 one.1) in
    let last : StopLast made answers refusal = subst (λ (x : List Event). StopLast x answers refusal) (sym h.are) (stop_last h.earlier all.1 h.last h.answer refusal all.3 h.stops) in
    (w, answers, run, last)

pub stopped_session : (start mid : SimFlash) (m : System) (q : Place) (events : List Event) (made rest : List Event) (refusal : Refusal) → OnlyReads (device_of start) (device_of mid)
    → IsMountOf (device_of start) (device_of mid) m → IsSystem (device_of mid) m → group_start ++ events ≡ made ++ rest → Halts (record { device = device_of mid; system = Some m }) made refusal q
    → StopsWithin start events refusal
stopped_session start mid m q events made rest refusal reads begins system is h =
    let first = mount_begins (device_of start) (device_of mid) m reads begins system in
    let all = halted_run (record { device = device_of mid; system = Some m }) q made refusal (first.0 ∷ []) first.3 h in
    let u : World = world (device_of mid) (Some m) (first.0 ∷ []) in
    (made, rest, all.1, all.0, is, (first.0, u, first.1, first.2, all.2), all.3)

pub unended_session : (start mid : SimFlash) (m : System) (inside q : Place) (events : List Event) (refusal : Refusal) → OnlyReads (device_of start) (device_of mid) → IsMountOf (device_of start) (device_of mid) m
    → IsSystem (device_of mid) m → ServesAll (record { device = device_of mid; system = Some m }) (group_start ++ events) inside → EndsGroup inside (Err refusal) q → StopsAtEnd start events refusal
unended_session start mid m inside q events refusal reads begins system passes (made, rest, is, h) =
    let first = mount_begins (device_of start) (device_of mid) m reads begins system in
    let all = passes_run (record { device = device_of mid; system = Some m }) inside (group_start ++ events) passes (first.0 ∷ []) first.3 in
    let last = halted_run inside q made refusal all.0 all.4 h in
    let u : World = world (device_of mid) (Some m) (first.0 ∷ []) in
    let w : World = world inside.device inside.system all.0 in
    (w, last.0, made, rest, last.1, record { answers = all.1; run = (first.0, u, first.1, first.2, all.2); goes = all.3 }, is, last.2, last.3)

-- ---- one source

-- what is not a folder and may be put is a file
pub file_thing : (readings : Readings) (base : Path) (found : Found) (bytes : List ℕ) → source_fault base found ≡ None → (found.kind ≡ SourceKind.Folder → ⊥) → AreBytesRead (readings.held found.name) bytes
    → readings.gives found.name bytes → IsThing readings base found (Thing.File (put_place base found) bytes)
file_thing readings base found bytes lawful other front given = (lawful, by_kind found.kind lawful other)
  where
    by_kind : (kind : SourceKind) → either_fault (kind_fault kind) (way_fault (path_refusal found.way) (length (put_place base found))) ≡ None → (kind ≡ SourceKind.Folder → ⊥)
        → IsThingBy readings kind (put_place base found) found.name (Thing.File (put_place base found) bytes)
    by_kind SourceKind.Folder h other = absurd (other refl)
    by_kind (SourceKind.File n) h other = (bytes, refl, front, given)
    by_kind SourceKind.Crowded h other = absurd cc
    by_kind SourceKind.Link h other = absurd cc
    by_kind SourceKind.Special h other = absurd cc
    by_kind SourceKind.Image h other = absurd cc
    by_kind SourceKind.Unreadable h other = absurd cc

pub folder_thing : (readings : Readings) (base : Path) (found : Found) → source_fault base found ≡ None → found.kind ≡ SourceKind.Folder → IsThing readings base found (Thing.Directory (put_place base found))
folder_thing readings base found lawful is =
    (lawful, subst (λ (kind : SourceKind). IsThingBy readings kind (put_place base found) found.name (Thing.Directory (put_place base found))) (sym is) refl)

pub unput_unplaced : (held : Held) (base : Path) (found : Found) (failure : Failure) → Unplaced base found failure → IsUnput held base found failure
unput_unplaced held base found Failure.Memory h = tt
unput_unplaced held base found (Failure.Source fault) h = inl h
unput_unplaced held base found failure h = absurd h

-- ---- the image

puts_front : (held : Held) (readings : Readings) (name bytes : List ℕ) → AreBytesRead (held name) bytes → (removed : List Event) (base : Path) (all : List Found) (start end : SimFlash)
    → PutsBy (IsDecoded bytes) removed readings base all start end → PutsBy (IsSpelledFlash (held name)) removed readings base all start end
puts_front held readings name bytes front removed = puts_as (IsDecoded bytes) (IsSpelledFlash (held name)) (loaded_front (held name) bytes front) removed readings

put_cause : (held : Held) (readings : Readings) (name bytes : List ℕ) → AreBytesRead (held name) bytes → (removed : List Event) (base : Path) (all : List Found) (failure : Failure)
    → PutCause (IsDecoded bytes) (DecodeCause bytes) removed readings base all failure → PutCause (IsSpelledFlash (held name)) (LoadCause (held name)) removed readings base all failure
put_cause held readings name bytes front removed =
    cause_as (IsDecoded bytes) (IsSpelledFlash (held name)) (DecodeCause bytes) (LoadCause (held name)) (loaded_front (held name) bytes front) (cause_front (held name) bytes front) removed readings

removed_front : (held : Held) (name bytes : List ℕ) → AreBytesRead (held name) bytes → (base : Path) (kept : Option (List Kept)) (removed : List Event)
    → AreRemoved (IsDecoded bytes) base kept removed → AreRemoved (IsSpelledFlash (held name)) base kept removed
removed_front held name bytes front base None removed none = none
removed_front held name bytes front base (Some kept) removed (items, (first, there, lists), is) = (items, (first, loaded_front (held name) bytes front first there, lists), is)

unlisted_front : (held : Held) (name bytes : List ℕ) → AreBytesRead (held name) bytes → (kept : Option (List Kept)) (failure : Failure)
    → UnlistedBy (IsDecoded bytes) (DecodeCause bytes) kept failure → UnlistedBy (IsSpelledFlash (held name)) (LoadCause (held name)) kept failure
unlisted_front held name bytes front None failure cause = absurd cause
unlisted_front held name bytes front (Some kept) failure (inl cause) = inl (cause_front (held name) bytes front failure cause)
unlisted_front held name bytes front (Some kept) failure (inr (start, end, fault, there, asked, planned, why)) = inr (start, end, fault, loaded_front (held name) bytes front start there, asked, planned, why)

-- sources are put so whatever the files hold that were claimed, since a claim changes none
once_claimed : (name : List ℕ) (IsClaimed : List ℕ → Type 0) (Reads : List ℕ → List ℕ → Type 0) (base : Path) (kept : Option (List Kept)) (all : List Found) (held claimed saved : Held) (result : Result (Unit {0}) Failure) → claimed ≡ held
    → SourcesEnd name IsClaimed Reads base kept all claimed saved result → SourcesEnd name IsClaimed Reads base kept all held saved result
once_claimed name IsClaimed Reads base kept all held claimed saved result same ends = subst (λ (h : Held). SourcesEnd name IsClaimed Reads base kept all h saved result) same ends

sources_unclaimed : (name : List ℕ) (IsClaimed : List ℕ → Type 0) (Reads : List ℕ → List ℕ → Type 0) (base : Path) (kept : Option (List Kept)) (all : List Found) (held claimed : Held) (failure : Failure) → claimed ≡ held → IsUnclaimed failure
    → SourcesEnd name IsClaimed Reads base kept all held claimed (Err failure)
sources_unclaimed name IsClaimed Reads base kept all held claimed failure same cause = inl (inl cause, same)

sources_unread : (name : List ℕ) (IsClaimed : List ℕ → Type 0) (Reads : List ℕ → List ℕ → Type 0) (base : Path) (kept : Option (List Kept)) (all : List Found) (held claimed : Held) (failure : Failure) → claimed ≡ held → IsUnread (claimed name) failure
    → SourcesEnd name IsClaimed Reads base kept all held claimed (Err failure)
sources_unread name IsClaimed Reads base kept all held claimed failure same unread =
    once_claimed name IsClaimed Reads base kept all held claimed claimed (Err failure) same (inl (inr (inl (cause_unread (claimed name) failure unread)), refl))

pub sources_untaken : (name : List ℕ) (IsClaimed : List ℕ → Type 0) (Reads : List ℕ → List ℕ → Type 0) (base : Path) (kept : Option (List Kept)) (all : List Found) (held claimed : Held) (failure : Failure) → claimed ≡ held
    → IsUnclaimed failure ⊎ IsUnread (claimed name) failure → SourcesEnd name IsClaimed Reads base kept all held claimed (Err failure)
sources_untaken name IsClaimed Reads base kept all held claimed failure same (inl unclaimed) = sources_unclaimed name IsClaimed Reads base kept all held claimed failure same unclaimed
sources_untaken name IsClaimed Reads base kept all held claimed failure same (inr unread) = sources_unread name IsClaimed Reads base kept all held claimed failure same unread

over_front : (held : Held) (readings : Readings) (name bytes : List ℕ) → AreBytesRead (held name) bytes → (base : Path) (kept : Option (List Kept)) (all : List Found) (start end : SimFlash)
    → PutsOver (IsDecoded bytes) readings base kept all start end → PutsOver (IsSpelledFlash (held name)) readings base kept all start end
over_front held readings name bytes front base kept all start end (removed, are, puts) =
    (removed, removed_front held name bytes front base kept removed are, puts_front held readings name bytes front removed base all start end puts)

over_cause : (held : Held) (readings : Readings) (name bytes : List ℕ) → AreBytesRead (held name) bytes → (base : Path) (kept : Option (List Kept)) (all : List Found) (failure : Failure)
    → OverCause (IsDecoded bytes) (DecodeCause bytes) readings base kept all failure → OverCause (IsSpelledFlash (held name)) (LoadCause (held name)) readings base kept all failure
over_cause held readings name bytes front base kept all failure (inl cause) = inl (unlisted_front held name bytes front kept failure cause)
over_cause held readings name bytes front base kept all failure (inr (removed, are, cause)) =
    inr (removed, removed_front held name bytes front base kept removed are, put_cause held readings name bytes front removed base all failure cause)

-- what reads give then is among what they may give
over_given : (IsThere : SimFlash → Type 0) (held : Held) (Reads More : List ℕ → List ℕ → Type 0) → ((name bytes : List ℕ) → Reads name bytes → More name bytes) → (base : Path) (kept : Option (List Kept)) (all : List Found) (start end : SimFlash)
    → PutsOver IsThere (readings_of held Reads) base kept all start end → PutsOver IsThere (readings_of held More) base kept all start end
over_given IsThere held Reads More more base kept all start end (removed, are, puts) = (removed, are, puts_given IsThere held Reads More more removed base all start end puts)

over_cause_given : (IsThere : SimFlash → Type 0) (Cause : Failure → Type 0) (held : Held) (Reads More : List ℕ → List ℕ → Type 0) → ((name bytes : List ℕ) → Reads name bytes → More name bytes) → (base : Path) (kept : Option (List Kept)) (all : List Found)
    (failure : Failure) → OverCause IsThere Cause (readings_of held Reads) base kept all failure → OverCause IsThere Cause (readings_of held More) base kept all failure
over_cause_given IsThere Cause held Reads More more base kept all failure (inl cause) = inl cause
over_cause_given IsThere Cause held Reads More more base kept all failure (inr (removed, are, cause)) =
    inr (removed, are, cause_given IsThere Cause held Reads More more removed base all failure cause)

pub sources_unput : (name : List ℕ) (IsClaimed : List ℕ → Type 0) (Reads : List ℕ → List ℕ → Type 0) (base : Path) (kept : Option (List Kept)) (all : List Found) (held claimed : Held) (bytes : List ℕ) (failure : Failure)
    (Now : List ℕ → List ℕ → Type 0) → ((name bytes : List ℕ) → Now name bytes → Reads name bytes) → claimed ≡ held
    → AreBytesRead (claimed name) bytes → OverCause (IsDecoded bytes) (DecodeCause bytes) (readings_of claimed Now) base kept all failure → SourcesEnd name IsClaimed Reads base kept all held claimed (Err failure)
sources_unput name IsClaimed Reads base kept all held claimed bytes failure Now given same front cause =
    let found = over_cause_given (IsDecoded bytes) (DecodeCause bytes) claimed Now Reads given base kept all failure cause in
    once_claimed name IsClaimed Reads base kept all held claimed claimed (Err failure) same (inl (inr (inr (over_cause claimed (readings_of claimed Reads) name bytes front base kept all failure found)), refl))

pub sources_saved : (name : List ℕ) (IsClaimed : List ℕ → Type 0) (Reads : List ℕ → List ℕ → Type 0) (base : Path) (kept : Option (List Kept)) (all : List Found) (held claimed saved : Held) (bytes lent : List ℕ) (start end : SimFlash)
    (result : Result (Unit {0}) Failure) (Now : List ℕ → List ℕ → Type 0) → ((name bytes : List ℕ) → Now name bytes → Reads name bytes) → claimed ≡ held → IsClaimed bytes → AreBytesRead (claimed name) bytes
    → PutsOver (IsDecoded bytes) (readings_of claimed Now) base kept all start end
    → lent ≡ bytes → OnOk result (SavesChange name claimed saved lent (image_of (device_of end)))
    → IfErr result (ChangeUnsaved name claimed saved lent (image_of (device_of end))) → SourcesEnd name IsClaimed Reads base kept all held saved result
sources_saved name IsClaimed Reads base kept all held claimed saved bytes lent start end (Ok done) Now given same held_so front puts is ok err =
    let found = over_given (IsDecoded bytes) claimed Now Reads given base kept all start end puts in
    let spelled : bytes ≡ image_of (device_of start) = puts.2.1.spelled in
    once_claimed name IsClaimed Reads base kept all held claimed saved (Ok done) same (
      start,
      end,
      (subst IsClaimed spelled held_so, over_front claimed (readings_of claimed Reads) name bytes front base kept all start end found),
      subst (λ (was : List ℕ). SavesChange name claimed saved was (image_of (device_of end))) (is ∙ spelled) ok,
    )
sources_saved name IsClaimed Reads base kept all held claimed saved bytes lent start end (Err failure) Now given same held_so front puts is ok err =
    let found = over_given (IsDecoded bytes) claimed Now Reads given base kept all start end puts in
    let spelled : bytes ≡ image_of (device_of start) = puts.2.1.spelled in
    once_claimed name IsClaimed Reads base kept all held claimed saved (Err failure) same (inr (
      start,
      end,
      (subst IsClaimed spelled held_so, over_front claimed (readings_of claimed Reads) name bytes front base kept all start end found),
      subst (λ (was : List ℕ). ChangeUnsaved name claimed saved was (image_of (device_of end)) failure) (is ∙ spelled) err,
    ))

-- ---- the words

pub unspelled : (is_wanted skips : Bool) (image : List ℕ) (gathered : Option (List Found)) (word : List ℕ) (failure : Failure) → SpellingCause word failure → GatherCause is_wanted skips image gathered word failure
unspelled is_wanted skips image gathered word failure (inl memory) = inl memory
unspelled is_wanted skips image gathered word failure (inr refused) = inr (inl refused)

pub unplaced : (is_wanted skips : Bool) (image : List ℕ) (gathered : Option (List Found)) (word : List ℕ) (base : Path) (failure : Failure) → path_spelled word ≡ Ok base
    → (failure ≡ Failure.Memory) ⊎ ((all : List Found) × IfSome gathered (λ found. all ≡ found) × FoundCause is_wanted skips image base all failure) → GatherCause is_wanted skips image gathered word failure
unplaced is_wanted skips image gathered word base failure spelled (inl memory) = inl memory
unplaced is_wanted skips image gathered word base failure spelled (inr (all, known, cause)) = inr (inr (base, all, record { spelled = spelled; known = known }, cause))

-- the first sources are not the image's own, and nor is the next one
pub others_next : (image : List ℕ) (sources : List Source) (i : ℕ) (source : Source) → i < length sources → source ≡ get_or sources i source
    → AreOthers image (map source_found (take i sources)) → takes_away image (source_found source).name ≡ false → AreOthers image (map source_found (take (i + 1) sources))
others_next image sources i source below is others one =
    subst (λ (x : List Found). AreOthers image x) (sym (found_more sources i source below is))
    (All-push (λ (found : Found). takes_away image found.name ≡ false) (map source_found (take i sources)) (source_found source) others one)

pub others_all : (image : List ℕ) (sources : List Source) (i : ℕ) → length sources ≤ i → AreOthers image (map source_found (take i sources)) → AreOthers image (map source_found sources)
others_all image sources i over others = subst (λ (x : List Source). AreOthers image (map source_found x)) (take_all i sources over) others
