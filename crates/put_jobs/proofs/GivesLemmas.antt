-- What is given one after the other, and what comes of it.
use Rattle.std.proofs.Common.{◌≡◌, ◌<◌, ◌+◌, ◌*◌, ◌++◌, ◌∷◌, [], ℕ, List, Option, Some, None, Result, Ok, Err, IfErr, IfSome, OnOk, map, length, length-append, option_map, IsSome, inl, inr, refl, sym, ap, ◌∙◌, subst, append_assoc, append-nil, arith}
use Rattle.std.specs.Prelude.{reverse, option_to_list}
use Rattle.std.specs.List.{flat_map}
use Rattle.std.proofs.lemmas.List.{reverse-append}
use Rattle.std.proofs.lemmas.List.Concat.{flat_map-append}
use Rattle.std.proofs.lemmas.List.Elements.{Contains-push, Contains-append_left, Contains-append_right}
use Rattle.fs_types.specs.Names.{Path}
use Rattle.fs_types.specs.declared.event.Event.{Event}
use Rattle.flash_model.specs.Reading.{OnlyReads}
use Rattle.flash_simulation.specs.Simulation.{device_of}
use Rattle.flash_simulation.specs.declared.sim_flash.SimFlash.{SimFlash}
use Rattle.flash_simulation.specs.Images.{image_of}
use Rattle.system.specs.Mounts.{IsMountOf}
use Rattle.system.specs.Systems.{IsSystem}
use Rattle.system.specs.declared.systems.System.{System}
use Rattle.host_interface.specs.Files.{Held, Readings, readings_of, ReadsClaimed, ReadsBeside}
use Rattle.host_interface.specs.Sources.{Found, source_found}
use Rattle.host_interface.specs.declared.source.Source.{Source}
use Rattle.image_jobs.specs.Failures.{of_refusal}
use Rattle.image_jobs.specs.Images.{DecodeCause, SavesChange, ChangeUnsaved}
use Rattle.image_jobs.specs.declared.failure.Failure.{Failure}
use Rattle.script_runs.specs.Flashes.{IsDecoded}
use Rattle.script_runs.specs.declared.scripts.Refusal.{Refusal}
use Rattle.put_lots.specs.Lots.{taken_in, listed, lots_from}
use Rattle.put_lots.specs.Things.{thing_events}
use Rattle.put_lots.specs.declared.lots.Taken.{Taken}
use Rattle.put_lots.specs.declared.thing.Thing.{Thing}
use Rattle.put_lots.specs.declared.kept.Kept.{Kept}
use Rattle.put_jobs.specs.Batches.{kept_in}
use Rattle.put_jobs.specs.Gives.{Ending, whole, broken, begun, GivesNext, GivesKnown, GivesSources, PutsAfter, PutsGroup, PutsOn, UnputOn, PutsIn, UnputIn, IsTaken, ThingsEnd}
use Rattle.put_jobs.specs.Groups.{WriteCause, EventsEnd}
use Rattle.put_jobs.specs.Inputs.{written, writes_left}
use Rattle.put_jobs.specs.Mirrors.{AreRemoved, UnlistedBy, OverCause}
use Rattle.put_jobs.specs.Putting.{SourcesEnd}
use Rattle.put_jobs.specs.Puts.{put_events, IsThing, IsUnput, Is, IsNever, Carries, StopsWithin, StopsAtEnd, PutsBy, PutCause}
use Rattle.put_jobs.specs.Served.{Place, place, ServesAll, ServesPut, HaltsAmong, Asks}
use Rattle.put_jobs.specs.declared.batch.Batch.{Batch}
use Rattle.put_jobs.specs.declared.putting.Put.{Put}
use Rattle.put_jobs.proofs.FlashLemmas.{puts_on, cause_on}
use Rattle.put_jobs.proofs.GroupLemmas.{events_untaken, events_undone, events_saved}
use Rattle.put_jobs.proofs.PutLemmas.{passes_more, halts_more, put_session, stopped_session, unended_session, sources_untaken, sources_unput, sources_saved}

-- ---- events that are known

pub known_next : (all first rest : List Event) → all ≡ first ++ rest → GivesNext (GivesKnown all) (GivesKnown rest) (Some first)
known_next all first rest parts = (more, (rest, parts))
  where
    more : (events : List Event) (end : Ending) → GivesKnown rest events end → GivesKnown all (first ++ events) end
    more events whole is = ap (λ (x : List Event). first ++ x) is ∙ sym parts
    more events (broken failure) memory = memory
    more events begun (later, is) = (later, parts ∙ ap (λ (x : List Event). first ++ x) is ∙ sym (append_assoc first events later))

not_none : IsSome {T = Thing} None → ⊥
not_none is = absurd cc

-- lots, of which the last one is put first
pub lots_given : (old new : List Thing) (lot : Option Thing) → old ≡ new ++ option_to_list lot → (0 < length old → IsSome lot)
    → GivesNext (GivesKnown (flat_map thing_events (reverse old))) (GivesKnown (flat_map thing_events (reverse new))) (option_map thing_events lot)
lots_given [] new None parts some = refl
lots_given (one ∷ old) new None parts some = absurd (not_none (some (omega arith)))
lots_given old new (Some lot) parts some =
    let turned : reverse old ≡ lot ∷ reverse new = ap reverse parts ∙ reverse-append new (lot ∷ []) in
    known_next (flat_map thing_events (reverse old)) (thing_events lot) (flat_map thing_events (reverse new)) (ap (flat_map thing_events) turned)

pub fewer_lots : {A : Type 0} (f : A → List Event) (next : Option A) (old new : List Thing) (lot : Option Thing) → option_map f next ≡ option_map thing_events lot → old ≡ new ++ option_to_list lot
    → IfSome next (λ _. length new < length old)
fewer_lots f None old new lot is parts = tt
fewer_lots f (Some given) old new None is parts = absurd cc
fewer_lots f (Some given) old new (Some lot) is parts = omega (arith, ap length parts, length-append new (lot ∷ []))

-- a file
pub input_given : (path same : Path) (was now : Option (List ℕ)) (bytes : List ℕ) → was ≡ Some bytes → now ≡ None → same ≡ path
    → GivesNext (GivesKnown (writes_left path was)) (GivesKnown (writes_left path now)) (Some (written same bytes))
input_given path same was now bytes some none is =
    let parts : writes_left path was ≡ written same bytes ++ writes_left path now =
    ap (writes_left path) some ∙ ap (λ (x : Path). written x bytes) (sym is) ∙ ap (λ (x : Option (List ℕ)). written same bytes ++ writes_left path x) (sym none) in
    known_next (writes_left path was) (written same bytes) (writes_left path now) parts

pub fewer_writes : (path : Path) (was now : Option (List ℕ)) (bytes : List ℕ) → was ≡ Some bytes → now ≡ None → length (writes_left path now) < length (writes_left path was)
fewer_writes path was now bytes some none =
    subst (λ (x : Option (List ℕ)). length (writes_left path x) < length (writes_left path was)) (sym none)
    (subst (λ (x : Option (List ℕ)). 0 < length (writes_left path x)) (sym some) (omega arith))

-- ---- sources

sources_next : (readings : Readings) (base : Path) (found : Found) (all : List Found) (last : Option Thing) (thing : Thing) → IsThing readings base found thing
    → GivesNext (GivesSources readings base (found ∷ all) last) (GivesSources readings base all (Some (taken_in last thing).last)) (Some (flat_map thing_events (listed (taken_in last thing).ready)))
sources_next readings base found all last thing is = (
  more,
  (
    found ∷ [],
    all,
    thing ∷ [],
    flat_map thing_events (lots_from (Some (taken_in last thing).last) []),
    refl,
    (is, tt),
    flat_map-append thing_events (listed (taken_in last thing).ready) (lots_from (Some (taken_in last thing).last) []),
  ),
)
  where
    more : (events : List Event) (end : Ending) → GivesSources readings base all (Some (taken_in last thing).last) events end
        → GivesSources readings base (found ∷ all) last (flat_map thing_events (listed (taken_in last thing).ready) ++ events) end
    more events whole (things, are, same) = (
      thing ∷ things,
      (is, are),
      ap (λ (x : List Event). flat_map thing_events (listed (taken_in last thing).ready) ++ x) same
          ∙ sym (flat_map-append thing_events (listed (taken_in last thing).ready) (lots_from (Some (taken_in last thing).last) things)),
    )
    more events (broken failure) (inl memory) = inl memory
    more events (broken failure) (inr (one, among, unput)) = inr (one, Contains-append_right (found ∷ []) all one among, unput)
    more events begun (first, later, things, rest, parts, are, same) = (
      found ∷ first,
      later,
      thing ∷ things,
      rest,
      ap (λ (x : List Found). found ∷ x) parts,
      (is, are),
      flat_map-append thing_events (listed (taken_in last thing).ready) (lots_from (Some (taken_in last thing).last) things)
          ∙ ap (λ (x : List Event). flat_map thing_events (listed (taken_in last thing).ready) ++ x) same
          ∙ sym (append_assoc (flat_map thing_events (listed (taken_in last thing).ready)) events rest),
    )

-- a source is taken in after what waits
pub sources_taken : (readings : Readings) (base : Path) (before left : List Source) (source : Source) (was last : Option Thing) (thing next : Thing) (ready : Option Thing) → before ≡ source ∷ left → last ≡ was
    → IsThing readings base (source_found source) thing → record { ready = ready; last = next } ≡ taken_in last thing
    → GivesNext (GivesSources readings base (map source_found before) was) (GivesSources readings base (map source_found left) (Some next)) (Some (flat_map thing_events (listed ready)))
sources_taken readings base before left source was last thing next ready split same is taken =
    let all : List Found = map source_found left in
    let step = sources_next readings base (source_found source) all last thing is in
    let at_taken : GivesNext (GivesSources readings base (source_found source ∷ all) last) (GivesSources readings base all (Some next)) (Some (flat_map thing_events (listed ready))) =
    subst (λ (x : Taken). GivesNext (GivesSources readings base (source_found source ∷ all) last) (GivesSources readings base all (Some x.last)) (Some (flat_map thing_events (listed x.ready)))) (sym taken) step in
    let at_last = subst (λ (x : Option Thing). GivesNext (GivesSources readings base (source_found source ∷ all) x) (GivesSources readings base all (Some next)) (Some (flat_map thing_events (listed ready)))) same at_taken in
    subst (λ (x : List Source). GivesNext (GivesSources readings base (map source_found x) was) (GivesSources readings base all (Some next)) (Some (flat_map thing_events (listed ready)))) (sym split) at_last

-- it is not had
pub source_broken : (readings : Readings) (base : Path) (before left : List Source) (source : Source) (last : Option Thing) (failure : Failure) → before ≡ source ∷ left
    → IsUnput readings.held base (source_found source) failure → GivesSources readings base (map source_found before) last [] (broken failure)
source_broken readings base before left source last failure split unput =
    let found : Found = source_found source in
    subst (λ (x : List Source). GivesSources readings base (map source_found x) last [] (broken failure)) (sym split)
    (inr (found, Contains-append_left (found ∷ []) (map source_found left) found (Contains-push [] found), unput))

-- what waits is given after the last source
last_given : (readings : Readings) (base : Path) (thing : Thing) → GivesNext (GivesSources readings base [] (Some thing)) (GivesSources readings base [] None) (Some (thing_events thing))
last_given readings base thing = (more, ([], [], [], [], refl, tt, refl))
  where
    more : (events : List Event) (end : Ending) → GivesSources readings base [] None events end → GivesSources readings base [] (Some thing) (thing_events thing ++ events) end
    more events whole ([], are, same) = ([], tt, ap (λ (x : List Event). thing_events thing ++ x) same)
    more events whole (other ∷ things, are, same) = absurd are
    more events (broken failure) cause = cause
    more events begun ([], later, [], rest, parts, are, same) =
        ([], later, [], rest, parts, tt, ap (λ (x : List Event). thing_events thing ++ x) same ∙ sym (append_assoc (thing_events thing) events rest))
    more events begun ([], later, other ∷ things, rest, parts, are, same) = absurd are
    more events begun (one ∷ first, later, things, rest, parts, are, same) = absurd cc

pub sources_last : (readings : Readings) (base : Path) (before : List Source) (was last now : Option Thing) → length before ≡ 0 → last ≡ was → now ≡ None
    → GivesNext (GivesSources readings base (map source_found before) was) (GivesSources readings base (map source_found before) now) (option_map thing_events last)
sources_last readings base [] was None now empty same none = subst (λ (x : Option Thing). GivesSources readings base [] x [] whole) same ([], tt, refl)
sources_last readings base [] was (Some thing) now empty same none =
    subst (λ (x : Option Thing). GivesNext (GivesSources readings base [] x) (GivesSources readings base [] now) (Some (thing_events thing))) same
    (subst (λ (x : Option Thing). GivesNext (GivesSources readings base [] (Some thing)) (GivesSources readings base [] x) (Some (thing_events thing))) (sym none) (last_given readings base thing))
sources_last readings base (source ∷ before) was last now empty same none = absurd (omega (arith, empty))

-- what is ready is given, or nothing
pub ready_given : (ready : Option Thing) (thing : Thing) (given : Option (List Event)) → ready ≡ Some thing → given ≡ Some (thing_events thing) → given ≡ Some (flat_map thing_events (listed ready))
ready_given ready thing given some is =
    is ∙ ap (λ (x : List Event). Some x) (sym (append-nil (thing_events thing))) ∙ ap (λ (x : Option Thing). Some (flat_map thing_events (listed x))) (sym some)

pub none_ready : (ready : Option Thing) (events : List Event) → ready ≡ None → events ≡ [] → Some events ≡ Some (flat_map thing_events (listed ready))
none_ready ready events none empty = ap (λ (x : List Event). Some x) empty ∙ ap (λ (x : Option Thing). Some (flat_map thing_events (listed x))) (sym none)

-- fewer calls give what is left then
pub fewer_sources : (n m k : ℕ) → n + 1 ≡ m → 2 * n + 1 < 2 * m + k
fewer_sources n m k one = omega (arith, one)

pub fewer_last : {A : Type 0} (f : A → List Event) (next : Option A) (n : ℕ) (was last now : Option Thing) → option_map f next ≡ option_map thing_events last → last ≡ was → now ≡ None
    → IfSome next (λ _. 2 * n + length (listed now) < 2 * n + length (listed was))
fewer_last f None n was last now is same none = tt
fewer_last f (Some given) n was None now is same none = absurd cc
fewer_last f (Some given) n was (Some thing) now is same none =
    let one : 2 * n + 0 < 2 * n + 1 = omega arith in
    subst (λ (x : Option Thing). 2 * n + length (listed now) < 2 * n + length (listed x)) same
    (subst (λ (x : Option Thing). 2 * n + length (listed x) < 2 * n + length (listed (Some thing))) (sym none) one)

pub if_some : {A : Type 0} (P : Type 0) → P → (next : Option A) → IfSome next (λ _. P)
if_some P p None = tt
if_some P p (Some x) = p

-- ---- what is served

pub halted : (p q : Place) (events : List Event) (refusal : Refusal) (failure : Failure) → ServesPut p events (Err refusal) q → failure ≡ of_refusal refusal → HaltsAmong p events failure
halted p q events refusal failure (made, rest, is, halts) why = (made, rest, refusal, q, is, halts, why)

-- so much was given and served
abbrev pub HasPut : (List Event → Ending → Type 0) → (List Event → Ending → Type 0) → Place → Place → Type 0
HasPut Old New p q = (done : List Event) × ServesAll p done q × ((more : List Event) (end : Ending) → New more end → Old (done ++ more) end)

pub none_put : (Gives : List Event → Ending → Type 0) (p : Place) → HasPut Gives Gives p p
none_put Gives p = ([], refl, λ more end given. given)

pub next_put : (Old Now Then : List Event → Ending → Type 0) (p q r : Place) (events lent : List Event) → HasPut Old Now p q → GivesNext Now Then (Some events) → lent ≡ events → Asks lent q (Ok tt) r → HasPut Old Then p r
next_put Old Now Then p q r events lent (done, passes, road) (next, first) same asked = (
  done ++ events,
  passes_more p q r done events passes (subst (λ (x : List Event). ServesAll q x r) same asked),
  λ more end given. subst (λ (x : List Event). Old x end) (sym (append_assoc done events more)) (road (events ++ more) end (next more end given)),
)

pub next_halted : (Old Now Then : List Event → Ending → Type 0) (p q r : Place) (events lent : List Event) (failure : Failure) → HasPut Old Now p q → GivesNext Now Then (Some events) → lent ≡ events
    → Asks lent q (Err failure) r → PutsAfter [] Old p (Err failure) r
next_halted Old Now Then p q r events lent failure (done, passes, road) (next, first) same (made, rest, refusal, at, begins, halts, why) =
    let is : done ++ events ≡ (done ++ made) ++ rest = ap (λ (x : List Event). done ++ x) (sym same ∙ begins) ∙ sym (append_assoc done made rest) in
    inr (done ++ events, road events begun first, (done ++ made, rest, refusal, at, is, halts_more p q at done made refusal passes halts, why))

pub next_broken : (Old Now : List Event → Ending → Type 0) (p q r : Place) (failure : Failure) → HasPut Old Now p q → Now [] (broken failure) → PutsAfter [] Old p (Err failure) r
next_broken Old Now p q r failure (done, passes, road) cause = inl (done ++ [], road [] (broken failure) cause)

pub all_put : (Old Now Then : List Event → Ending → Type 0) (p q : Place) → HasPut Old Now p q → GivesNext Now Then None → PutsAfter [] Old p (Ok tt) q
all_put Old Now Then p q (done, passes, road) none = (done, subst (λ (x : List Event). Old x whole) (append-nil done) (road [] whole none), passes)

-- ---- the change group

-- it does not begin, or what is removed first is refused
pub unbegun : (before : List Event) (Gives : List Event → Ending → Type 0) (p q r : Place) (refusal : Refusal) (failure : Failure) → Gives [] begun → ServesPut p before (Err refusal) q → failure ≡ of_refusal refusal
    → PutsAfter before Gives p (Err failure) r
unbegun before Gives p q r refusal failure none (made, rest, begins, halts) why = inr ([], none, (made, rest, refusal, q, append-nil before ∙ begins, halts, why))

-- it begins, and things are put in it
pub put_after : (before : List Event) (Gives : List Event → Ending → Type 0) (p q r : Place) (result : Result (Unit {0}) Failure) → ServesAll p before q → PutsAfter [] Gives q result r → PutsAfter before Gives p result r
put_after before Gives p q r (Ok done) passes (events, given, more) = (events, given, passes_more p q r before events passes more)
put_after before Gives p q r (Err failure) passes (inl cause) = inl cause
put_after before Gives p q r (Err failure) passes (inr (events, given, (made, rest, refusal, at, begins, halts, why))) =
    let is : before ++ events ≡ (before ++ made) ++ rest = ap (λ (x : List Event). before ++ x) begins ∙ sym (append_assoc before made rest) in
    inr (events, given, (before ++ made, rest, refusal, at, is, halts_more p q at before made refusal passes halts, why))

-- ---- on what is mounted

pub put_done : (removed : List Event) (Gives : List Event → Ending → Type 0) (start mid : SimFlash) (m : System) (end : Put) → OnlyReads (device_of start) (device_of mid) → IsMountOf (device_of start) (device_of mid) m
    → IsSystem (device_of mid) m → PutsGroup removed Gives (record { device = device_of mid; system = Some m }) (Ok tt) (place end) → PutsOn removed Gives start end.flash
put_done removed Gives start mid m end reads begins system (inside, (events, given, passes), ended) = (events, given, put_session start mid m inside end (removed ++ events) reads begins system passes ended)

pub put_undone : (removed : List Event) (Gives : List Event → Ending → Type 0) (start mid : SimFlash) (m : System) (q : Place) (failure : Failure) → OnlyReads (device_of start) (device_of mid)
    → IsMountOf (device_of start) (device_of mid) m → IsSystem (device_of mid) m → PutsGroup removed Gives (record { device = device_of mid; system = Some m }) (Err failure) q → UnputOn removed Gives start failure
put_undone removed Gives start mid m q failure reads begins system (inl (inl cause)) = inl cause
put_undone removed Gives start mid m q failure reads begins system (inl (inr (events, given, (made, rest, refusal, at, is, halts, why)))) =
    inr (inr (events, refusal, inl (given, stopped_session start mid m at (removed ++ events) made rest refusal reads begins system is halts), why))
put_undone removed Gives start mid m q failure reads begins system (inr (inside, refusal, (events, given, passes), ended, why)) =
    inr (inr (events, refusal, inr (given, unended_session start mid m inside q (removed ++ events) refusal reads begins system passes ended), why))

-- ---- on the flash of an image

pub put_in : (Removes : List ℕ → List Event → Type 0) (Gives : List Event → Ending → Type 0) (image : List ℕ) (start : SimFlash) (removed lent : List Event) (end : SimFlash) → IsDecoded image start → Removes image removed
    → lent ≡ removed → PutsOn lent Gives start end → PutsIn Removes Gives image end
put_in Removes Gives image start removed lent end there are same puts = (start, removed, there, are, subst (λ (x : List Event). PutsOn x Gives start end) same puts)

pub not_put_in : (Removes : List ℕ → List Event → Type 0) (Unlisted : List ℕ → Failure → Type 0) (Gives : List Event → Ending → Type 0) (image : List ℕ) (start : SimFlash) (removed lent : List Event) (failure : Failure)
    → IsDecoded image start → Removes image removed → lent ≡ removed → UnputOn lent Gives start failure → UnputIn Removes Unlisted Gives image failure
not_put_in Removes Unlisted Gives image start removed lent failure there are same cause = inr (removed, are, inr (start, there, subst (λ (x : List Event). UnputOn x Gives start failure) same cause))

-- ---- into an image

pub things_saved : {S : Type 0} (Claims : S → List ℕ → Type 0) (Holds : S → Held) (Reads : S → List ℕ → List ℕ → Type 0) (name : List ℕ) (Removes : List ℕ → List Event → Type 0) (Unlisted : List ℕ → Failure → Type 0)
    (Gives : S → List Event → Ending → Type 0) (held saved : Held) (files : S) (image lent : List ℕ) (end : SimFlash) (result : Result (Unit {0}) Failure) → IsTaken Claims Holds Reads name held files image → PutsIn Removes (Gives files) image end
    → lent ≡ image → OnOk result (SavesChange name (Holds files) saved lent (image_of (device_of end))) → IfErr result (ChangeUnsaved name (Holds files) saved lent (image_of (device_of end)))
    → ThingsEnd Claims Holds Reads name Removes Unlisted Gives held saved result
things_saved Claims Holds Reads name Removes Unlisted Gives held saved files image lent end (Ok done) taken puts same ok err =
    (files, image, end, taken, puts, subst (λ (x : List ℕ). SavesChange name (Holds files) saved x (image_of (device_of end))) same ok)
things_saved Claims Holds Reads name Removes Unlisted Gives held saved files image lent end (Err failure) taken puts same ok err =
    inr (inr (files, image, end, taken, puts, subst (λ (x : List ℕ). ChangeUnsaved name (Holds files) saved x (image_of (device_of end)) failure) same err))

stops_more : (start : SimFlash) (events rest : List Event) (refusal : Refusal) → StopsWithin start events refusal → StopsWithin start (events ++ rest) refusal
stops_more start events rest refusal (made, later, answers, v, is, session, last) =
    (made, later ++ rest, answers, v, ap (λ (x : List Event). x ++ rest) is ∙ append_assoc made later rest, session, last)

-- ---- events that are known, into an image

known_all : (removed events all : List Event) → removed ≡ [] → events ≡ all → removed ++ events ≡ all
known_all removed events all none is = ap (λ (x : List Event). x ++ events) none ∙ is

known_cause : (image : List ℕ) (all : List Event) (start : SimFlash) (removed : List Event) (failure : Failure) → IsDecoded image start → removed ≡ [] → UnputOn removed (GivesKnown all) start failure
    → WriteCause (IsDecoded image) (DecodeCause image) all failure
known_cause image all start removed failure there none (inl (events, memory)) = inl (subst (DecodeCause image) (sym memory) tt)
known_cause image all start removed failure there none (inr (inl (first, end, fault, is, unmounted, why))) = inr (inl (first, end, fault, subst (IsDecoded image) (sym is) there, unmounted, why))
known_cause image all start removed failure there none (inr (inr (events, refusal, inl ((rest, parts), stops), why))) =
    let is : (removed ++ events) ++ rest ≡ all = ap (λ (x : List Event). (x ++ events) ++ rest) none ∙ sym parts in
    inr (inr (start, refusal, there, inl (subst (λ (x : List Event). StopsWithin start x refusal) is (stops_more start (removed ++ events) rest refusal stops)), why))
known_cause image all start removed failure there none (inr (inr (events, refusal, inr (given, stops), why))) =
    inr (inr (start, refusal, there, inr (subst (λ (x : List Event). StopsAtEnd start x refusal) (known_all removed events all none given) stops), why))

module _ {S : Type 0} (Claims : S → List ℕ → Type 0) (Holds : S → Held) (Reads : S → List ℕ → List ℕ → Type 0) (name : List ℕ) (all : List Event) (held saved : Held) where
  known_undone : (files : S) (image : List ℕ) (failure : Failure) → IsTaken Claims Holds Reads name held files image → saved ≡ held
      → UnputIn (λ image removed. removed ≡ []) (λ image failure. ⊥) (GivesKnown all) image failure → EventsEnd name (ReadsClaimed Claims Reads name) all held saved (Err failure)
  known_undone files image failure taken kept unput = subst (λ (x : Held). EventsEnd name (ReadsClaimed Claims Reads name) all held x (Err failure)) (taken.same ∙ sym kept) (by_cause unput)
    where
      by_cause : UnputIn (λ image removed. removed ≡ []) (λ image failure. ⊥) (GivesKnown all) image failure → EventsEnd name (ReadsClaimed Claims Reads name) all held (Holds files) (Err failure)
      by_cause (inl none) = absurd none
      by_cause (inr (removed, none, inl cause)) = events_undone name (ReadsClaimed Claims Reads name) all held (Holds files) image failure taken.same taken.front (inl cause)
      by_cause (inr (removed, none, inr (start, there, cause))) =
          events_undone name (ReadsClaimed Claims Reads name) all held (Holds files) image failure taken.same taken.front (known_cause image all start removed failure there none cause)

  pub known_ends : (result : Result (Unit {0}) Failure) → ThingsEnd Claims Holds Reads name (λ image removed. removed ≡ []) (λ image failure. ⊥) (λ files. GivesKnown all) held saved result
      → EventsEnd name (ReadsClaimed Claims Reads name) all held saved result
  known_ends (Ok done) (files, image, end, taken, (start, removed, there, none, (events, given, carries)), saves) =
      let at_all : Carries start all end = subst (λ (x : List Event). Carries start x end) (known_all removed events all none given) carries in
      events_saved name (ReadsClaimed Claims Reads name) all held (Holds files) saved image image start end (Ok done) taken.same (files, taken.claimed, taken.now) taken.front (there, at_all) refl saves tt
  known_ends (Err failure) (inl (files, same, kept, why)) =
      subst (λ (x : Held). EventsEnd name (ReadsClaimed Claims Reads name) all held x (Err failure)) (same ∙ sym kept) (events_untaken name (ReadsClaimed Claims Reads name) all held (Holds files) failure same why)
  known_ends (Err failure) (inr (inl (files, image, taken, unput, kept))) = known_undone files image failure taken kept unput
  known_ends (Err failure) (inr (inr (files, image, end, taken, (start, removed, there, none, (events, given, carries)), unsaved))) =
      let at_all : Carries start all end = subst (λ (x : List Event). Carries start x end) (known_all removed events all none given) carries in
      events_saved name (ReadsClaimed Claims Reads name) all held (Holds files) saved image image start end (Err failure) taken.same (files, taken.claimed, taken.now) taken.front (there, at_all) refl tt unsaved

-- ---- sources, into an image

pub sources_put : (removed : List Event) (readings : Readings) (base : Path) (all : List Found) (start end : SimFlash) → PutsOn removed (GivesSources readings base all None) start end
    → PutsBy (Is start) removed readings base all start end
sources_put removed readings base all start end (events, (things, are, same), carries) = (things, refl, are, subst (λ (x : List Event). Carries start (removed ++ x) end) same carries)

pub sources_cause : (removed : List Event) (readings : Readings) (base : Path) (all : List Found) (start : SimFlash) (failure : Failure) → UnputOn removed (GivesSources readings base all None) start failure
    → PutCause (Is start) IsNever removed readings base all failure
sources_cause removed readings base all start failure (inl (events, inl memory)) = inr (inl memory)
sources_cause removed readings base all start failure (inl (events, inr cause)) = inr (inr (inl cause))
sources_cause removed readings base all start failure (inr (inl unmounted)) = inr (inr (inr (inl unmounted)))
sources_cause removed readings base all start failure (inr (inr (events, refusal, inl ((first, later, things, rest, parts, are, same), stops), why))) =
    let is : (removed ++ events) ++ rest ≡ put_events removed things = append_assoc removed events rest ∙ ap (λ (x : List Event). removed ++ x) (sym same) in
    inr (inr (inr (inr (start, first, later, things, refusal, refl, parts, are, inl (subst (λ (x : List Event). StopsWithin start x refusal) is (stops_more start (removed ++ events) rest refusal stops)), why))))
sources_cause removed readings base all start failure (inr (inr (events, refusal, inr ((things, are, same), stops), why))) =
    inr (inr (inr (inr (start, all, [], things, refusal, refl, sym (append-nil all), are, inr (subst (λ (x : List Event). StopsAtEnd start (removed ++ x) refusal) same stops), why))))

module _ {S : Type 0} (Claims : S → List ℕ → Type 0) (Holds : S → Held) (Reads ReadsSource : S → List ℕ → List ℕ → Type 0) (name : List ℕ) (base : Path) (kept : Option (List Kept)) (all : List Found) (held saved : Held) where
  over_cause : (files : S) (image : List ℕ) (failure : Failure) → UnputIn (λ image removed. AreRemoved (IsDecoded image) base kept removed) (λ image failure. UnlistedBy (IsDecoded image) (DecodeCause image) kept failure)
      (GivesSources (readings_of (Holds files) (ReadsSource files)) base all None) image failure → OverCause (IsDecoded image) (DecodeCause image) (readings_of (Holds files) (ReadsSource files)) base kept all failure
  over_cause files image failure (inl unlisted) = inl unlisted
  over_cause files image failure (inr (removed, are, inl cause)) = inr (removed, are, inl cause)
  over_cause files image failure (inr (removed, are, inr (start, there, cause))) =
      let readings = readings_of (Holds files) (ReadsSource files) in
      inr (removed, are, cause_on (IsDecoded image) (DecodeCause image) start there removed readings base all failure (sources_cause removed readings base all start failure cause))

  sources_end : (result : Result (Unit {0}) Failure) → ThingsEnd Claims Holds Reads name (λ image removed. AreRemoved (IsDecoded image) base kept removed) (λ image failure. UnlistedBy (IsDecoded image) (DecodeCause image) kept failure)
      (λ files. GivesSources (readings_of (Holds files) (ReadsSource files)) base all None) held saved result
      → SourcesEnd name (ReadsClaimed Claims Reads name) (ReadsBeside Claims ReadsSource name) base kept all held saved result
  sources_end (Ok done) (files, image, end, taken, (start, removed, there, are, puts), saves) =
      let readings = readings_of (Holds files) (ReadsSource files) in
      sources_saved name (ReadsClaimed Claims Reads name) (ReadsBeside Claims ReadsSource name) base kept all held (Holds files) saved image image start end (Ok done)
      (ReadsSource files) (λ other bytes given. (files, taken.claimed, given)) taken.same (files, taken.claimed, taken.now) taken.front
      (removed, are, puts_on (IsDecoded image) start there removed readings base all start end (sources_put removed readings base all start end puts)) refl saves tt
  sources_end (Err failure) (inl (files, same, kept_so, why)) =
      subst (λ (x : Held). SourcesEnd name (ReadsClaimed Claims Reads name) (ReadsBeside Claims ReadsSource name) base kept all held x (Err failure)) (same ∙ sym kept_so)
      (sources_untaken name (ReadsClaimed Claims Reads name) (ReadsBeside Claims ReadsSource name) base kept all held (Holds files) failure same why)
  sources_end (Err failure) (inr (inl (files, image, taken, unput, kept_so))) =
      subst (λ (x : Held). SourcesEnd name (ReadsClaimed Claims Reads name) (ReadsBeside Claims ReadsSource name) base kept all held x (Err failure)) (taken.same ∙ sym kept_so)
      (sources_unput name (ReadsClaimed Claims Reads name) (ReadsBeside Claims ReadsSource name) base kept all held (Holds files) image failure
      (ReadsSource files) (λ other bytes given. (files, taken.claimed, given)) taken.same taken.front (over_cause files image failure unput))
  sources_end (Err failure) (inr (inr (files, image, end, taken, (start, removed, there, are, puts), unsaved))) =
      let readings = readings_of (Holds files) (ReadsSource files) in
      sources_saved name (ReadsClaimed Claims Reads name) (ReadsBeside Claims ReadsSource name) base kept all held (Holds files) saved image image start end (Err failure)
      (ReadsSource files) (λ other bytes given. (files, taken.claimed, given)) taken.same (files, taken.claimed, taken.now) taken.front
      (removed, are, puts_on (IsDecoded image) start there removed readings base all start end (sources_put removed readings base all start end puts)) refl tt unsaved

-- ---- of a batch

pub batch_ends : {S : Type 0} (Claims : S → List ℕ → Type 0) (Holds : S → Held) (Reads ReadsSource : S → List ℕ → List ℕ → Type 0) (name : List ℕ) (batch same : Batch) (left : List Source) (last : Option Thing) (held saved : Held)
    (result : Result (Unit {0}) Failure) → same ≡ batch → left ≡ batch.sources.items → last ≡ None
    → ThingsEnd Claims Holds Reads name (λ image removed. AreRemoved (IsDecoded image) same.base (kept_in same) removed) (λ image failure. UnlistedBy (IsDecoded image) (DecodeCause image) (kept_in same) failure)
    (λ files. GivesSources (readings_of (Holds files) (ReadsSource files)) same.base (map source_found left) last) held saved result
    → SourcesEnd name (ReadsClaimed Claims Reads name) (ReadsBeside Claims ReadsSource name) batch.base (kept_in batch) (map source_found batch.sources.items) held saved result
batch_ends Claims Holds Reads ReadsSource name batch same left last held saved result is all none ends =
    let at_last = subst (λ (x : Option Thing). ThingsEnd Claims Holds Reads name (λ image removed. AreRemoved (IsDecoded image) same.base (kept_in same) removed) (λ image failure. UnlistedBy (IsDecoded image) (DecodeCause image) (kept_in same) failure)
    (λ files. GivesSources (readings_of (Holds files) (ReadsSource files)) same.base (map source_found left) x) held saved result) none ends in
    let at_left = subst (λ (x : List Source). ThingsEnd Claims Holds Reads name (λ image removed. AreRemoved (IsDecoded image) same.base (kept_in same) removed) (λ image failure. UnlistedBy (IsDecoded image) (DecodeCause image) (kept_in same) failure)
    (λ files. GivesSources (readings_of (Holds files) (ReadsSource files)) same.base (map source_found x) None) held saved result) all at_last in
    let at_batch = subst (λ (x : Batch). ThingsEnd Claims Holds Reads name (λ image removed. AreRemoved (IsDecoded image) x.base (kept_in x) removed) (λ image failure. UnlistedBy (IsDecoded image) (DecodeCause image) (kept_in x) failure)
    (λ files. GivesSources (readings_of (Holds files) (ReadsSource files)) x.base (map source_found batch.sources.items) None) held saved result) is at_left in
    sources_end Claims Holds Reads ReadsSource name batch.base (kept_in batch) (map source_found batch.sources.items) held saved result at_batch

batch_gives : (readings : Readings) (P : (List Event → Ending → Type 0) → Type 0) (batch same : Batch) (left : List Source) (last : Option Thing) → same ≡ batch → left ≡ batch.sources.items → last ≡ None
    → P (GivesSources readings same.base (map source_found left) last) → P (GivesSources readings batch.base (map source_found batch.sources.items) None)
batch_gives readings P batch same left last is all none p =
    let at_last = subst (λ (x : Option Thing). P (GivesSources readings same.base (map source_found left) x)) none p in
    let at_left = subst (λ (x : List Source). P (GivesSources readings same.base (map source_found x) None)) all at_last in
    subst (λ (x : Batch). P (GivesSources readings x.base (map source_found batch.sources.items) None)) is at_left

pub batch_put : (removed : List Event) (readings : Readings) (batch same : Batch) (left : List Source) (last : Option Thing) (start end : SimFlash) → same ≡ batch → left ≡ batch.sources.items → last ≡ None
    → PutsOn removed (GivesSources readings same.base (map source_found left) last) start end → PutsBy (Is start) removed readings batch.base (map source_found batch.sources.items) start end
batch_put removed readings batch same left last start end is all none puts =
    sources_put removed readings batch.base (map source_found batch.sources.items) start end (batch_gives readings (λ Gives. PutsOn removed Gives start end) batch same left last is all none puts)

pub batch_unput : (removed : List Event) (readings : Readings) (batch same : Batch) (left : List Source) (last : Option Thing) (start : SimFlash) (failure : Failure) → same ≡ batch → left ≡ batch.sources.items → last ≡ None
    → UnputOn removed (GivesSources readings same.base (map source_found left) last) start failure → PutCause (Is start) IsNever removed readings batch.base (map source_found batch.sources.items) failure
batch_unput removed readings batch same left last start failure is all none cause =
    sources_cause removed readings batch.base (map source_found batch.sources.items) start failure (batch_gives readings (λ Gives. UnputOn removed Gives start failure) batch same left last is all none cause)
