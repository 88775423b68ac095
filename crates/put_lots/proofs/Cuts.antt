-- Things that were taken in one after the other: some are put, and what is left waits.
use Rattle.std.proofs.Common.{◌≡◌, Option, Some, None, List, [], ◌∷◌, ◌++◌, refl, sym, ap, ◌∙◌, append_assoc, append-nil}
use Rattle.std.specs.List.{flat_map}
use Rattle.std.proofs.lemmas.List.Concat.{flat_map-append}
use Rattle.fs_types.specs.declared.event.Event.{Event}
use Rattle.put_lots.specs.Lots.{taken_in, listed, lots_from, lots_of}
use Rattle.put_lots.specs.Things.{thing_events}
use Rattle.put_lots.specs.declared.thing.Thing.{Thing}

-- whatever comes after the things, these are put, and then what waits with it
abbrev pub IsCut : List Thing → List Thing → Option Thing → Type 0
IsCut things done last = (rest : List Thing) → lots_of (things ++ rest) ≡ done ++ lots_from last rest

pub cut_none : IsCut [] [] None
cut_none rest = refl

pub cut_next : (things done : List Thing) (last : Option Thing) (thing : Thing) → IsCut things done last → IsCut (things ++ thing ∷ []) (done ++ listed (taken_in last thing).ready) (Some (taken_in last thing).last)
cut_next things done last thing cut rest =
    let taken = taken_in last thing in
    ap lots_of (append_assoc things (thing ∷ []) rest) ∙ cut (thing ∷ rest) ∙ sym (append_assoc done (listed taken.ready) (lots_from (Some taken.last) rest))

-- the events of things are those of what is put, and of what waits
pub cut_events : (things done : List Thing) (last : Option Thing) → IsCut things done last → flat_map thing_events (lots_of things) ≡ flat_map thing_events done ++ flat_map thing_events (listed last)
cut_events things done last cut =
    ap (λ (x : List Thing). flat_map thing_events (lots_of x)) (sym (append-nil things)) ∙ ap (flat_map thing_events) (cut []) ∙ flat_map-append thing_events done (listed last)

pub events_more : (done ready : List Thing) → flat_map thing_events (done ++ ready) ≡ flat_map thing_events done ++ flat_map thing_events ready
events_more done ready = flat_map-append thing_events done ready

-- of which the first ones were asked, and then some of those that are ready
pub events_until : (things done : List Thing) (last : Option Thing) (thing : Thing) (made rest : List Event) → IsCut things done last → flat_map thing_events (listed (taken_in last thing).ready) ≡ made ++ rest
    → flat_map thing_events (lots_of (things ++ thing ∷ [])) ≡ (flat_map thing_events done ++ made) ++ (rest ++ thing_events (taken_in last thing).last)
events_until things done last thing made rest cut begins =
    let taken = taken_in last thing in
    let ready = listed taken.ready in
    let waits : List Event = thing_events taken.last in
    cut_events (things ++ thing ∷ []) (done ++ ready) (Some taken.last) (cut_next things done last thing cut)
    ∙ (λ i. events_more done ready i ++ append-nil waits i)
    ∙ ap (λ (x : List Event). (flat_map thing_events done ++ x) ++ waits) begins
    ∙ ap (λ (x : List Event). x ++ waits) (sym (append_assoc (flat_map thing_events done) made rest))
    ∙ append_assoc (flat_map thing_events done ++ made) rest waits
