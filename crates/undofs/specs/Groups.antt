-- Change groups over the worlds of a run: what stands after one that was abandoned, after one that ended, and after a restart in one.
use Rattle.std.specs.Prelude.{◌≡◌, ◌⊎◌, true, List, Contains}
use Rattle.history_machine.specs.History.{Past}
use Rattle.history_machine.specs.Laws.{EachStays, in_group}
use Rattle.history_machine.specs.Machine.{Machine, mounted, next, present_tree, working_tree, makes_version}
use Rattle.fs_types.specs.declared.call.Call.{Call}
use Rattle.fs_types.specs.declared.event.Event.{Event}
use Rattle.fs_types.specs.declared.event.Answer.{Answer}
use Rattle.plain_trees.specs.Trees.{Tree}
use Rattle.flash_model.specs.Device.{Device}
use Rattle.undofs.specs.Headline.{Accepts, CarriesOut}
use Rattle.undofs.specs.Runs.{World, Shows, Happens}
use Rattle.undofs.specs.Sessions.{Session}

-- from a world that shows this machine on, `begin` and then these calls are carried out, and the group is open still
pub record IsInGroup (w : World) (m : Machine) (calls : List Call) (v : World) : Type 0 where
  pub stays : EachStays (next m Call.Begin) calls
  pub done : CarriesOut w Call.Begin calls v

-- a history from before a group: the one that this machine has, or one that a restart on this world might have found
abbrev pub IsFromBefore : World → Machine → Past Tree → Type 0
IsFromBefore w m history = Contains w.found history ⊎ (history ≡ m.history)

-- from a world that shows this machine on, whatever calls are in a group:
pub record Regroups (w : World) (m : Machine) : Type 0 where
  -- abandoning it gives the machine that was
  pub abandoned : (calls : List Call) (inside v : World) (n : Machine) → IsInGroup w m calls inside → Accepts inside Call.Abandon v → Shows v n → n ≡ m
  -- ending it shows the tree that the calls worked on
  pub ended : (calls : List Call) (inside v : World) (g n : Machine) → IsInGroup w m calls inside → Shows inside g → Accepts inside Call.End v
      → Shows v n → working_tree n ≡ working_tree g
  -- where the end makes a version, undo after it gives the present tree that was
  pub undone : (calls : List Call) (inside ended v : World) (n : Machine) → IsInGroup w m calls inside → makes_version (in_group m calls) Call.End ≡ true
      → Accepts inside Call.End ended → Accepts ended Call.Undo v → Shows v n → present_tree n ≡ present_tree m
  -- a restart before its end finds nothing of it
  pub lost : (calls : List Call) (inside v : World) (n : Machine) → IsInGroup w m calls inside → Happens inside Event.Restart Answer.Mounted v → Shows v n
      → (history : Past Tree) × IsFromBefore w m history × (n ≡ mounted history)

-- so it is from the end of every session on
abbrev pub RegroupLaw : Type 0
RegroupLaw = (d : Device) (events : List Event) (answers : List Answer) (v : World) → Session d events answers v → (m : Machine) → Shows v m → Regroups v m
