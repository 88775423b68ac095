-- One turn of a script: a line is taken and carried out, and its answer written.
use Rattle.std.specs.Prelude.{◌≡◌, ℕ, Bool, Option, Some, None, Result, Ok, Err, List, [], take}
use Rattle.std.specs.Io.KnownBytes.{Consumes, IsAtEnd, Appends}
use Rattle.history_machine.specs.History.{Past}
use Rattle.plain_trees.specs.Trees.{Tree}
use Rattle.flash_model.specs.Device.{Device}
use Rattle.flash_model.specs.Plan.{Schedule}
use Rattle.script.specs.Lines.{line_of}
use Rattle.script.specs.Streams.{TakesLine, TakesPart}
use Rattle.script.specs.declared.line.Line.{Line}
use Rattle.script.specs.declared.line_answer.LineAnswer.{LineAnswer}
use Rattle.system.specs.declared.systems.System.{System}
use Rattle.undofs.specs.Runs.{World}
use Rattle.undofs.specs.Asks.{ServesAsk}
use Rattle.undofs.specs.Sessions.{Stands, world}
use Rattle.fs_types.specs.declared.ask.Ask.{Ask}
use Rattle.undofs.specs.declared.asks.Told.{Told}
use Rattle.script_runs.specs.Plans.{PlanGoesOn}
use Rattle.script_runs.specs.Scripts.{Scene, ask_of, Tells, IsStillAnswer, CarriesOut, Streams, EndsOrStops, answer_text}
use Rattle.script_runs.specs.declared.scripts.ScriptFault.{ScriptFault}
use Rattle.script_runs.specs.declared.scripts.Stop.{Stop}

-- what was taken from a reader, and what it asks
abbrev pub Gets : Option (List ℕ) → Option (List ℕ) → Result (Option Line) ScriptFault → Type 0
Gets old new (Ok (Some line)) = (bytes : List ℕ) × TakesLine old new bytes × (line ≡ line_of bytes)
Gets old new (Ok None) = Consumes old new [] × IsAtEnd new
Gets old new (Err ScriptFault.Read) = TakesPart old new
Gets old new (Err ScriptFault.Memory) = (bytes : List ℕ) × TakesLine old new bytes
Gets old new (Err _) = ⊥

-- a flash, the system on it, where one is mounted, and the faults that are planned for it, where any can be
pub record Seat : Type 0 where
  pub device : Device
  pub system : Option System
  pub plan : Option Schedule

abbrev pub seat_at : Device → Option System → Option Schedule → Seat
seat_at d system plan = record { device = d; system = system; plan = plan }

-- with the histories that a restart may find
abbrev pub world_at : Seat → List (Past Tree) → World
world_at s found = world s.device s.system found

abbrev pub scene_at : Seat → List (Past Tree) → Scene
scene_at s found = record { world = world_at s found; plan = s.plan }

-- what is asked is done, and the line is answered what is told of it
abbrev pub Asks : Ask → Seat → LineAnswer → Seat → Type 0
Asks ask s answer t =
    (told : Told) × ServesAsk s.device s.system ask told t.device t.system × Tells t.system told answer × PlanGoesOn s.device s.plan t.device t.plan

abbrev pub DoesBy : Option Ask → Line → Seat → LineAnswer → Seat → Type 0
DoesBy (Some ask) line s answer t = Asks ask s answer t
DoesBy None line s answer t = (t.device ≡ s.device) × (t.system ≡ s.system) × IsStillAnswer line s.plan answer t.plan

-- what a line does to a flash, to what is mounted on it and to the plan of faults, and its answer
abbrev pub Does : Line → Seat → LineAnswer → Seat → Type 0
Does line = DoesBy (ask_of line) line

-- what was written of an answer
abbrev pub Writes : Option (List ℕ) → Option (List ℕ) → LineAnswer → Result (Unit {0}) ScriptFault → Type 0
Writes old new answer (Ok done) = Appends old new (answer_text answer)
Writes old new answer (Err ScriptFault.Memory) = new ≡ old
Writes old new answer (Err ScriptFault.Write) = (n : ℕ) × Appends old new (take n (answer_text answer))
Writes old new answer (Err _) = ⊥

-- lines that were carried out, from each world that has this flash and system to one that has those
abbrev pub Carried : Seat → Seat → List (List ℕ) → List LineAnswer → Type 0
Carried s t lines answers = (found : List (Past Tree)) → Stands (world_at s found)
    → (more : List (Past Tree)) × CarriesOut (scene_at s found) lines answers (scene_at t more) × Stands (world_at t more)

-- how the lines of a reader end
abbrev pub LinesEnd : Bool → Seat → Streams → Result (Option Stop) ScriptFault → Streams → Seat → Type 0
LinesEnd stop s before result after t = EndsOrStops stop (Carried s t) (λ fault. ⊥) before result after
