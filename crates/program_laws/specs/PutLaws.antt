-- The laws of puts: the history that was saved is saved still, or it changed once.
use Rattle.std.specs.Prelude.{◌≡◌, ◌⊎◌, ℕ, Option, Some, List, [], All}
use Rattle.fs_types.specs.Names.{Path}
use Rattle.fs_types.specs.declared.call.Call.{Call}
use Rattle.fs_types.specs.declared.call.View.{View}
use Rattle.fs_types.specs.declared.event.Event.{Event}
use Rattle.plain_trees.specs.Trees.{Tree}
use Rattle.history_machine.specs.History.{Past, changed}
use Rattle.flash_model.specs.Device.{Device}
use Rattle.flash_simulation.specs.Simulation.{device_of}
use Rattle.flash_model.specs.declared.geometry.Geometry.{Geometry}
use Rattle.flash_simulation.specs.declared.sim_flash.SimFlash.{SimFlash}
use Rattle.mounting.specs.Saved.{saved_trees}
use Rattle.host_interface.specs.Files.{Held, Readings, readings_of}
use Rattle.host_interface.specs.Sources.{Found}
use Rattle.script_runs.specs.Flashes.{IsMade}
use Rattle.image_jobs.specs.Images.{IsSpelledFlash}
use Rattle.inquiries.specs.declared.items.Item.{Item}
use Rattle.put_lots.specs.declared.thing.Thing.{Thing}
use Rattle.put_lots.specs.declared.kept.Kept.{Kept}
use Rattle.put_jobs.specs.Groups.{WritesBy}
use Rattle.put_jobs.specs.Inputs.{written}
use Rattle.put_jobs.specs.Mirrors.{removals, PutsOver}
use Rattle.put_jobs.specs.Puts.{lot_events, put_events, Carries, PutsBy}

-- the history that was saved is saved still, or it changed once
abbrev pub SavesOnce : Device → Device → Type 0
SavesOnce old new = (h : Past Tree) × (saved_trees old ≡ Some h) × ((saved_trees new ≡ Some h) ⊎ ((t : Tree) × (saved_trees new ≡ Some (changed h t))))

-- a call of a put: it makes a directory, looks whether it is there, writes files whole, or removes
abbrev pub IsPutCall : Call → Type 0
IsPutCall (Call.Mkdir path) = Unit {0}
IsPutCall (Call.Stat View.Present path) = Unit {0}
IsPutCall (Call.WriteFile path bytes) = Unit {0}
IsPutCall (Call.WriteFiles directory files) = Unit {0}
IsPutCall (Call.Rmdir path) = Unit {0}
IsPutCall (Call.Unlink path) = Unit {0}
IsPutCall _ = ⊥

-- an event of a put is such a call
abbrev pub IsPutEvent : Event → Type 0
IsPutEvent (Event.Call call) = IsPutCall call
IsPutEvent _ = ⊥

-- events of a put that are carried out in one change group leave the saved history, or change it once
abbrev pub SavesOnceLaw : Type 0
SavesOnceLaw = (start end : SimFlash) (events : List Event) → All IsPutEvent events → Carries start events end → SavesOnce (device_of start) (device_of end)

-- what a put carries out is made of such events alone
pub record PutEventsLaw : Type 0 where
  -- things that are put, after what is removed first, or nothing
  pub mirrored : (base : Path) (kept : List Kept) (items : List Item) (things : List Thing) → All IsPutEvent (put_events (removals base kept items) things)
  pub put : (things : List Thing) → All IsPutEvent (put_events [] things)
  -- things that are unpacked of an archive
  pub unpacked : (things : List Thing) → All IsPutEvent (lot_events things)
  -- the input, as one file
  pub input : (path : Path) (bytes : List ℕ) → All IsPutEvent (written path bytes)

-- what reads of files give, where any bytes may be read of one that is not known
abbrev pub readings_alone : Held → Readings
readings_alone held = readings_of held (λ name bytes. Unit {0})

-- so each put leaves the saved history, or changes it once: on the flash that the file of an image spells, and on a new one
pub record PutsOnceLaw : Type 0 where
  -- what stands on the host is put, after what is removed first, if anything is
  pub puts : (image : Option (List ℕ)) (held : Held) (base : Path) (kept : Option (List Kept)) (all : List Found) (start end : SimFlash)
      → PutsOver (IsSpelledFlash image) (readings_alone held) base kept all start end → SavesOnce (device_of start) (device_of end)
  -- an image is made of it
  pub creates : (sizes : Geometry) (limit : ℕ) (held : Held) (base : Path) (all : List Found) (start end : SimFlash)
      → PutsBy (IsMade sizes limit) [] (readings_alone held) base all start end → SavesOnce (device_of start) (device_of end)
  -- an archive is unpacked
  pub unpacks : (image : Option (List ℕ)) (things : List Thing) (start end : SimFlash)
      → WritesBy (IsSpelledFlash image) (lot_events things) start end → SavesOnce (device_of start) (device_of end)
  -- the input is put as one file
  pub writes : (image : Option (List ℕ)) (path : Path) (bytes : List ℕ) (start end : SimFlash)
      → WritesBy (IsSpelledFlash image) (written path bytes) start end → SavesOnce (device_of start) (device_of end)
