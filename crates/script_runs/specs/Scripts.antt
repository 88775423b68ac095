-- Scripts: what each line does and is answered, and what was read, carried out and written where a script ends.
use Rattle.std.specs.Prelude.{◌≡◌, ◌≢◌, ◌==◌, ℕ, suc, map, Bool, IsTrue, Option, Some, None, Result, Ok, Err, IfSome, List, [], ◌∷◌, ◌++◌, take, length, ◌⊎◌}
use Rattle.std.specs.List.{flat_map, enumerate_from, zip}
use Rattle.std.specs.Io.KnownBytes.{Consumes, IsAtEnd, Appends}
use Rattle.history_machine.specs.History.{Past}
use Rattle.plain_trees.specs.Trees.{Tree}
use Rattle.fs_types.specs.Names.{Name}
use Rattle.fs_types.specs.declared.call.Reply.{Reply}
use Rattle.fs_types.specs.declared.call.Version.{Version}
use Rattle.fs_types.specs.declared.event.Event.{Event}
use Rattle.fs_types.specs.declared.event.Answer.{Answer}
use Rattle.fs_types.specs.declared.fault.Fault.{Fault}
use Rattle.fs_types.specs.declared.fault.Fault.TheVariants.{ReadFailed, PowerCut, NoMemory}
use Rattle.flash_model.specs.Device.{Device}
use Rattle.flash_model.specs.Plan.{Schedule, planned, IsPlanFull}
use Rattle.flash_model.specs.Reading.{OnlyReads}
use Rattle.flash_simulation.specs.Simulation.{device_of, plan_of}
use Rattle.flash_model.specs.declared.fault_kind.FaultKind.{FaultKind}
use Rattle.flash_simulation.specs.declared.sim_flash.SimFlash.{SimFlash}
use Rattle.script.specs.Lines.{line_of}
use Rattle.script.specs.Replies.{text_of}
use Rattle.script.specs.Streams.{TakesLine, TakesPart, lines_of}
use Rattle.script.specs.declared.line.Line.{Line}
use Rattle.script.specs.declared.line_answer.LineAnswer.{LineAnswer}
use Rattle.script.specs.declared.space_line.CheckpointLine.{CheckpointLine}
use Rattle.script.specs.declared.space_line.SpaceLine.{SpaceLine}
use Rattle.script.specs.declared.space_line.VersionLine.{VersionLine}
use Rattle.system.specs.Mounts.{MountCause}
use Rattle.system.specs.declared.systems.System.{System}
use Rattle.system.specs.declared.version_space.HistorySpace.{HistorySpace}
use Rattle.system.specs.declared.version_space.VersionSpace.{VersionSpace}
use Rattle.mounting.specs.Saved.{saved_trees}
use Rattle.undofs.specs.Asks.{AskedAs, HappensAsk}
use Rattle.undofs.specs.Runs.{World, Mounts}
use Rattle.undofs.specs.Sessions.{Session}
use Rattle.fs_types.specs.declared.ask.Ask.{Ask}
use Rattle.undofs.specs.declared.asks.Told.{Told}
use Rattle.script_runs.specs.Plans.{PlanGoesOn, IsCalm}
use Rattle.script_runs.specs.declared.scripts.Refusal.{Refusal}
use Rattle.script_runs.specs.declared.scripts.ScriptFault.{ScriptFault}
use Rattle.script_runs.specs.declared.scripts.Stop.{Stop}

-- what a line asks for: a call, a step of reclaiming, of cleaning or of preparing, a restart, or what the history holds
abbrev pub ask_of : Line → Option Ask
ask_of (Line.Ask ask) = Some ask
ask_of _ = None

-- what is told of a version at a place and of a checkpoint, with what they keep
abbrev pub version_line : ℕ → ℕ × (Version ℕ × VersionSpace) → VersionLine
version_line cursor (place, (version, kept)) = record { serial = version.serial; frees = kept.frees; alone = kept.alone; is_present = place == cursor }

abbrev pub checkpoint_line : (Name × ℕ) × ℕ → CheckpointLine
checkpoint_line ((name, root), alone) = record { name = name; alone = alone }

-- what is told of a history that keeps so much
abbrev pub space_line : Past ℕ → HistorySpace → SpaceLine
space_line history space = record {
  versions = map (version_line history.cursor) (enumerate_from 0 (zip history.versions space.versions));
  checkpoints = map checkpoint_line (zip history.checkpoints space.checkpoints);
}

-- the answer to a line of which this is told, where this system is mounted: what a history keeps may want memory
abbrev pub Tells : Option System → Told → LineAnswer → Type 0
Tells s (Told.Answer answer) line = line ≡ LineAnswer.Told answer
Tells s (Told.Forgot count) line = line ≡ LineAnswer.Forgot count
Tells (Some m) (Told.Space space) line = (line ≡ LineAnswer.Space (space_line m.state.history space)) ⊎ (line ≡ LineAnswer.Told (Answer.Refused NoMemory))
Tells None (Told.Space space) line = line ≡ LineAnswer.Told Answer.Unmounted

-- a world, and the faults that are planned for its flash, where any can be
pub record Scene : Type 0 where
  pub world : World
  pub plan : Option Schedule

-- a fault is planned, or no room is left for it
abbrev pub Plans : Schedule → ℕ → FaultKind → LineAnswer → Option Schedule → Type 0
Plans old k kind answer new =
    ((answer ≡ LineAnswer.Told (Answer.Done Reply.Empty)) × (IsPlanFull old k kind → ⊥) × (new ≡ Some (planned old k kind)))
    ⊎ ((answer ≡ LineAnswer.Told (Answer.Refused Fault.Invalid)) × IsPlanFull old k kind × (new ≡ Some old))

-- the answer to a line that asks for no event: a refused path or name is refused; a fault is planned as the line says, where
-- the flash has a plan; and what has no form of a line is told so
abbrev pub IsStillAnswer : Line → Option Schedule → LineAnswer → Option Schedule → Type 0
IsStillAnswer (Line.Refused fault) old answer new = (answer ≡ LineAnswer.Told (Answer.Refused fault)) × (new ≡ old)
IsStillAnswer (Line.PlanFault (suc k) kind) (Some old) answer new = Plans old (suc k) kind answer new
IsStillAnswer _ old answer new = (answer ≡ LineAnswer.Syntax) × (new ≡ old)

-- by what a line asks for, if anything: the line is answered what is told of that, whose operations take from the plan what
-- comes due, and without it the world stays
abbrev pub RepliesBy : Option Ask → Line → Scene → LineAnswer → Scene → Type 0
RepliesBy (Some ask) line s answer t =
    (told : Told) × HappensAsk s.world ask told t.world × Tells t.world.system told answer × PlanGoesOn s.world.device s.plan t.world.device t.plan
RepliesBy None line s answer t = (t.world ≡ s.world) × IsStillAnswer line s.plan answer t.plan

-- a line is carried out, and so answered
abbrev pub Replies : Line → Scene → LineAnswer → Scene → Type 0
Replies line = RepliesBy (ask_of line) line

-- lines are carried out in order, each from its bytes, and each is answered: from the first scene to the last
abbrev pub CarriesOut : Scene → List (List ℕ) → List LineAnswer → Scene → Type 0
CarriesOut s [] [] t = t ≡ s
CarriesOut s (line ∷ lines) (answer ∷ answers) t = (between : Scene) × Replies (line_of line) s answer between × CarriesOut between lines answers t
CarriesOut s _ _ t = ⊥

-- what is written for an answer, and for answers in order
abbrev pub answer_text : LineAnswer → List ℕ
answer_text answer = text_of answer ++ 10 ∷ []

abbrev pub answer_texts : List LineAnswer → List ℕ
answer_texts answers = flat_map answer_text answers

-- the reader lost these lines, one after the other
abbrev pub HasTaken : Option (List ℕ) → List (List ℕ) → Option (List ℕ) → Type 0
HasTaken old [] new = new ≡ old
HasTaken old (line ∷ lines) new = (between : Option (List ℕ)) × TakesLine old between line × HasTaken between lines new

-- it lost these lines and is at its end: they are all that it had
abbrev pub HasTakenAll : Option (List ℕ) → List (List ℕ) → Option (List ℕ) → Type 0
HasTakenAll old lines new = (rest : Option (List ℕ)) × HasTaken old lines rest × Consumes rest new [] × IsAtEnd new × IfSome old (λ bytes. lines_of bytes ≡ lines)

-- it lost these lines, and a part of one more
abbrev pub HasTakenPart : Option (List ℕ) → List (List ℕ) → Option (List ℕ) → Type 0
HasTakenPart old lines new = (rest : Option (List ℕ)) × HasTaken old lines rest × TakesPart rest new

-- it lost these lines, or one more
abbrev pub HasTakenMore : Option (List ℕ) → List (List ℕ) → Option (List ℕ) → Type 0
HasTakenMore old lines new = HasTaken old lines new ⊎ ((line : List ℕ) × HasTaken old (lines ++ line ∷ []) new)

-- what is left to be read, and what was written so far, where they are known
pub record Streams : Type 0 where
  pub input : Option (List ℕ)
  pub out : Option (List ℕ)

abbrev pub streams_at : Option (List ℕ) → Option (List ℕ) → Streams
streams_at input out = record { input = input; out = out }

-- how a script ends, where Session says which lines were carried out with which answers, and Cause why no system was made:
-- all of the input was read and answered; or the reader failed after these lines; or the writer failed in the last answer;
-- or memory was wanted, before a line was carried out or before its answer was written; or there was no system for its
-- cause, and nothing was read or written
abbrev pub EndsBy : (List (List ℕ) → List LineAnswer → Type 0) → (Fault → Type 0) → Streams → Result (Unit {0}) ScriptFault → Streams → Type 0
EndsBy Session Cause before (Ok done) after =
    (lines : List (List ℕ)) × (answers : List LineAnswer) × Session lines answers × HasTakenAll before.input lines after.input × Appends before.out after.out (answer_texts answers)
EndsBy Session Cause before (Err ScriptFault.Read) after =
    (lines : List (List ℕ)) × (answers : List LineAnswer) × Session lines answers × HasTakenPart before.input lines after.input × Appends before.out after.out (answer_texts answers)
EndsBy Session Cause before (Err ScriptFault.Write) after =
    (lines : List (List ℕ)) × (earlier : List LineAnswer) × (last : LineAnswer) × (n : ℕ) × Session lines (earlier ++ last ∷ []) × HasTaken before.input lines after.input
    × Appends before.out after.out (answer_texts earlier ++ take n (answer_text last))
EndsBy Session Cause before (Err ScriptFault.Memory) after =
    ((lines : List (List ℕ)) × (answers : List LineAnswer) × Session lines answers × HasTakenMore before.input lines after.input × Appends before.out after.out (answer_texts answers))
    ⊎ ((lines : List (List ℕ)) × (earlier : List LineAnswer) × (last : LineAnswer) × Session lines (earlier ++ last ∷ []) × HasTaken before.input lines after.input × Appends before.out after.out (answer_texts earlier))
EndsBy Session Cause before (Err (ScriptFault.Mount fault)) after = Cause fault × (after.input ≡ before.input) × (after.out ≡ before.out)

-- a flash, and the faults that are planned for it, where any can be
pub record Ground : Type 0 where
  pub device : Device
  pub plan : Option Schedule

abbrev pub ground_at : Device → Option Schedule → Ground
ground_at d plan = record { device = d; plan = plan }

-- a flash with its plan, and one that has none
abbrev pub with_plan : Device → Schedule → Ground
with_plan d plan = ground_at d (Some plan)

abbrev pub unplanned : Device → Ground
unplanned d = ground_at d None

-- a flash in memory with its plan
abbrev pub ground : SimFlash → Ground
ground flash = with_plan (device_of flash) (plan_of flash)

-- lines that were carried out on what was mounted on a flash: the first world is that of the mount, with what its operations
-- left of the plan of the flash, and the last one stands on the flash at the end, with its plan
pub record SessionOn (start end : Ground) (lines : List (List ℕ)) (answers : List LineAnswer) : Type 0 where
  pub history : Past Tree
  pub first : Scene
  pub last : Scene
  pub saved : saved_trees start.device ≡ Some history
  pub mounts : Mounts start.device (history ∷ []) Answer.Mounted first.world
  pub begins : PlanGoesOn start.device start.plan first.world.device first.plan
  pub carried : CarriesOut first lines answers last
  pub ends : last.world.device ≡ end.device
  pub plan : last.plan ≡ end.plan

-- a mount was refused for a cause, and the flash was only read
pub record IsLeft (d e : Device) (fault : Fault) : Type 0 where
  pub cause : MountCause d e fault
  pub reads : OnlyReads d e

-- and its plan went on by these reads
abbrev pub IsRefusedOn : Ground → Ground → Fault → Type 0
IsRefusedOn start end fault = IsLeft start.device end.device fault × PlanGoesOn start.device start.plan end.device end.plan

-- how a script ends that found and leaves these flashes
abbrev pub EndsOnFlash : Ground → Ground → Streams → Result (Unit {0}) ScriptFault → Streams → Type 0
EndsOnFlash start end before result after = EndsBy (SessionOn start end) (IsRefusedOn start end) before result after

-- the same of flashes in memory
abbrev pub LineSession : SimFlash → SimFlash → List (List ℕ) → List LineAnswer → Type 0
LineSession start end = SessionOn (ground start) (ground end)

abbrev pub IsUnmounted : SimFlash → SimFlash → Fault → Type 0
IsUnmounted start end = IsRefusedOn (ground start) (ground end)

-- where no fault is planned, no read fails and power is not lost: a mount is refused for neither
abbrev pub CalmMountLaw : Type 0
CalmMountLaw = (start end : SimFlash) (fault : Fault) → IsCalm (device_of start) (plan_of start) → IsUnmounted start end fault
    → (fault ≢ ReadFailed) × (fault ≢ PowerCut)

abbrev pub EndsOnSimFlash : SimFlash → SimFlash → Streams → Result (Unit {0}) ScriptFault → Streams → Type 0
EndsOnSimFlash start end = EndsOnFlash (ground start) (ground end)

-- how an answer refuses its line
abbrev pub refusal_of : LineAnswer → Option Refusal
refusal_of (LineAnswer.Told (Answer.Refused fault)) = Some (Refusal.Fault fault)
refusal_of (LineAnswer.Told Answer.Unmounted) = Some Refusal.Unmounted
refusal_of (LineAnswer.Told _) = None
refusal_of (LineAnswer.Space space) = None
refusal_of (LineAnswer.Forgot count) = None
refusal_of LineAnswer.Syntax = Some Refusal.Syntax

-- none of these answers refuses its line; and none but the last
abbrev pub AreAccepted : List LineAnswer → Type 0
AreAccepted [] = Unit {0}
AreAccepted (answer ∷ answers) = (refusal_of answer ≡ None) × AreAccepted answers

abbrev pub AreAcceptedBefore : List LineAnswer → Type 0
AreAcceptedBefore [] = Unit {0}
AreAcceptedBefore (answer ∷ []) = Unit {0}
AreAcceptedBefore (answer ∷ next ∷ answers) = (refusal_of answer ≡ None) × AreAcceptedBefore (next ∷ answers)

-- a script stopped at the first line that was refused, whose answer is written: the lines after it were not read
abbrev pub StopsAt : (List (List ℕ) → List LineAnswer → Type 0) → Streams → Stop → Streams → Type 0
StopsAt Session before stop after =
    (lines : List (List ℕ)) × (earlier : List LineAnswer) × (last : LineAnswer) × Session lines (earlier ++ last ∷ []) × AreAccepted earlier
    × (refusal_of last ≡ Some stop.refusal) × (stop.line ≡ length lines) × HasTaken before.input lines after.input × Appends before.out after.out (answer_texts (earlier ++ last ∷ []))

-- how a script ends that may stop at the first line that is refused: where it was to, no line before the last was refused
abbrev pub EndsOrStops : Bool → (List (List ℕ) → List LineAnswer → Type 0) → (Fault → Type 0) → Streams → Result (Option Stop) ScriptFault → Streams → Type 0
EndsOrStops stop Session Cause before (Ok None) after = EndsBy (λ lines answers. Session lines answers × (IsTrue stop → AreAccepted answers)) Cause before (Ok tt) after
EndsOrStops stop Session Cause before (Ok (Some at)) after = IsTrue stop × StopsAt Session before at after
EndsOrStops stop Session Cause before (Err fault) after = EndsBy (λ lines answers. Session lines answers × (IsTrue stop → AreAcceptedBefore answers)) Cause before (Err fault) after

abbrev pub ScriptEndsOn : Bool → Ground → Ground → Streams → Result (Option Stop) ScriptFault → Streams → Type 0
ScriptEndsOn stop start end before result after = EndsOrStops stop (SessionOn start end) (IsRefusedOn start end) before result after

abbrev pub ScriptEnds : Bool → SimFlash → SimFlash → Streams → Result (Option Stop) ScriptFault → Streams → Type 0
ScriptEnds stop start end = ScriptEndsOn stop (ground start) (ground end)

-- what a line asks for comes to these events, with these answers; and what lines ask for
abbrev pub LineAsked : Option Ask → LineAnswer → List Event → List Answer → Type 0
LineAsked None answer events answers = (events ≡ []) × (answers ≡ [])
LineAsked (Some ask) answer events answers = (system : Option System) × (told : Told) × Tells system told answer × AskedAs ask told events answers

abbrev pub AreAsked : List (List ℕ) → List LineAnswer → List Event → List Answer → Type 0
AreAsked [] [] events answers = (events ≡ []) × (answers ≡ [])
AreAsked (line ∷ lines) (reply ∷ replies) events answers =
    (own : List Event) × (told : List Answer) × (later : List Event) × (rest : List Answer)
    × (events ≡ own ++ later) × (answers ≡ told ++ rest) × LineAsked (ask_of (line_of line)) reply own told × AreAsked lines replies later rest
AreAsked _ _ events answers = ⊥

-- lines that were carried out are a session of the events that they ask for, with the answers to these
abbrev pub ScriptLaw : Type 0
ScriptLaw = (start end : Ground) (lines : List (List ℕ)) (replies : List LineAnswer) → SessionOn start end lines replies
    → (v : World) × (events : List Event) × (answers : List Answer) × AreAsked lines replies events answers
    × Session start.device events (Answer.Mounted ∷ answers) v × (v.device ≡ end.device)
