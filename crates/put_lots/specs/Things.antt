-- The events that put things.
use Rattle.std.specs.Prelude.{List, [], ◌∷◌}
use Rattle.fs_types.specs.declared.call.Call.{Call}
use Rattle.fs_types.specs.declared.call.View.{View}
use Rattle.fs_types.specs.declared.event.Event.{Event}
use Rattle.put_lots.specs.declared.thing.Thing.{Thing}

-- a directory is made, and has to be there then; a file is written whole, and files of a directory are in one call
abbrev pub thing_events : Thing → List Event
thing_events (Thing.Directory path) = Event.Call (Call.Mkdir path) ∷ Event.Call (Call.Stat View.Present path) ∷ []
thing_events (Thing.File path bytes) = Event.Call (Call.WriteFile path bytes) ∷ []
thing_events (Thing.Files directory files) = Event.Call (Call.WriteFiles directory files) ∷ []
