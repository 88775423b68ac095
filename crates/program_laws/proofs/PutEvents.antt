-- What puts is made of events of a put.
use Rattle.std.proofs.Common.{ℕ, Bool, true, false, cond, Option, Some, None, List, [], ◌∷◌, ◌++◌, reverse}
use Rattle.std.proofs.lemmas.List.Elements.{All-nil, All-cons, All-append, All-same}
use Rattle.std.specs.Prelude.{All}
use Rattle.std.specs.List.{flat_map}
use Rattle.fs_types.specs.Names.{Path}
use Rattle.fs_types.specs.declared.call.Call.{Call}
use Rattle.fs_types.specs.declared.call.Stat.{Stat}
use Rattle.fs_types.specs.declared.call.View.{View}
use Rattle.fs_types.specs.declared.event.Event.{Event}
use Rattle.flash_simulation.specs.declared.sim_flash.SimFlash.{SimFlash}
use Rattle.inquiries.specs.declared.items.Item.{Item}
use Rattle.put_lots.specs.Lots.{lots_of}
use Rattle.put_lots.specs.Things.{thing_events}
use Rattle.put_lots.specs.declared.thing.Thing.{Thing}
use Rattle.put_lots.specs.Removals.{is_removed, removal}
use Rattle.put_lots.specs.declared.kept.Kept.{Kept}
use Rattle.put_jobs.specs.Inputs.{written}
use Rattle.put_jobs.specs.Mirrors.{AreRemoved, removal_of, removals}
use Rattle.put_jobs.specs.Puts.{lot_events}
use Rattle.program_laws.specs.PutLaws.{IsPutEvent, PutEventsLaw}

none : All IsPutEvent []
none = All-nil IsPutEvent

one : (event : Event) → IsPutEvent event → All IsPutEvent (event ∷ [])
one event is = All-cons IsPutEvent event [] is none

joined : {X : Type 0} (f : X → List Event) → ((x : X) → All IsPutEvent (f x)) → (xs : List X) → All IsPutEvent (flat_map f xs)
joined f each [] = none
joined f each (x ∷ xs) = All-append IsPutEvent (f x) (flat_map f xs) (each x) (joined f each xs)

-- a thing is put by such events
of_thing : (thing : Thing) → All IsPutEvent (thing_events thing)
of_thing (Thing.Directory path) = All-cons IsPutEvent (Event.Call (Call.Mkdir path)) (Event.Call (Call.Stat View.Present path) ∷ []) tt (one (Event.Call (Call.Stat View.Present path)) tt)
of_thing (Thing.File path bytes) = one (Event.Call (Call.WriteFile path bytes)) tt
of_thing (Thing.Files directory files) = one (Event.Call (Call.WriteFiles directory files)) tt

pub of_lots : (things : List Thing) → All IsPutEvent (lot_events things)
of_lots things = joined thing_events of_thing (lots_of things)

pub of_input : (path : Path) (bytes : List ℕ) → All IsPutEvent (written path bytes)
of_input path bytes = one (Event.Call (Call.WriteFile path bytes)) tt

-- and what is removed by such events
of_removal : (path : Path) (stat : Stat) → IsPutEvent (removal path stat)
of_removal path (Stat.Dir count) = tt
of_removal path (Stat.File size) = tt

of_item : (base : Path) (kept : List Kept) (item : Item) → All IsPutEvent (removal_of base kept item)
of_item base kept item = by (is_removed base kept item.path item.stat)
  where
    by : (b : Bool) → All IsPutEvent (cond b (removal item.path item.stat ∷ []) [])
    by true = one (removal item.path item.stat) (of_removal item.path item.stat)
    by false = none

of_removals : (base : Path) (kept : List Kept) (items : List Item) → All IsPutEvent (removals base kept items)
of_removals base kept items = joined (removal_of base kept) (of_item base kept) (reverse items)

pub of_removed : (IsThere : SimFlash → Type 0) (base : Path) (kept : Option (List Kept)) (removed : List Event) → AreRemoved IsThere base kept removed → All IsPutEvent removed
of_removed IsThere base None removed is = All-same IsPutEvent removed [] is none
of_removed IsThere base (Some kept) removed (items, listed, is) = All-same IsPutEvent removed (removals base kept items) is (of_removals base kept items)

pub of_put : (removed : List Event) (things : List Thing) → All IsPutEvent removed → All IsPutEvent (removed ++ lot_events things)
of_put removed things are = All-append IsPutEvent removed (lot_events things) are (of_lots things)

pub put_events_law : PutEventsLaw
put_events_law = record {
  mirrored = λ base kept items things. of_put (removals base kept items) things (of_removals base kept items);
  put = λ things. of_lots things;
  unpacked = of_lots;
  input = of_input;
}
